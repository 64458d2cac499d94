-- A copy of what is told there.
use Rattle.std.proofs.Common.{subst, sym, ◌∙◌}
use Rattle.smv_meaning.specs.Tables.{outcome_at}
use Rattle.bit_outcomes.specs.declared.told.Told.{Told}
use Rattle.bit_outcomes.specs.Telling.{Tells, ToldStands}
use Rattle.bit_outcomes.proofs.OfNodes.{tells_node}
use Rattle.bit_outcomes.proofs.nodes.told_at.Goals as goal

pub returns-in_ok-copy-clause-stands : goal.returns-in_ok-copy-clause-stands
returns-in_ok-copy-clause-stands c = λ g all.
    subst (ToldStands g) (sym (c.in_ok-copy.ensures ∙ c.index-told-k.is)) (all c.args.k c.index-told-k.result c.if-k-told.true)

pub returns-in_ok-copy-clause-told : goal.returns-in_ok-copy-clause-told
returns-in_ok-copy-clause-told c = λ v os all.
    subst (λ (t : Told). Tells v t (outcome_at os c.args.k)) (sym c.in_ok-copy.ensures) (tells_node v c.args.told.now os c.args.k c.index-told-k.result c.if-k-told.true c.index-told-k.is all)
