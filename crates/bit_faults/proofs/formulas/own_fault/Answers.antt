-- As what is told of the node.
use Rattle.std.proofs.Common.{subst, sym}
use Rattle.smv_meaning.specs.Tables.{outcome_at}
use Rattle.bit_outcomes.specs.Telling.{ToldStands}
use Rattle.bit_outcomes.proofs.OfNodes.{tells_node}
use Rattle.bit_faults.proofs.formulas.own_fault.Goals as goal

pub returns-then-k-here-clause-stands : goal.returns-then-k-here-clause-stands
returns-then-k-here-clause-stands c = λ g all.
    c.fault_if_told.ensures.stands g (subst (ToldStands g) (sym c.index-here-k.is) (all c.args.k c.index-here-k.result c.if-k-here.true))

pub returns-then-k-here-clause-told : goal.returns-then-k-here-clause-told
returns-then-k-here-clause-told c = λ v os all.
    c.fault_if_told.ensures.told v (outcome_at os c.args.k) (tells_node v c.args.here.now os c.args.k c.index-here-k.result c.if-k-here.true c.index-here-k.is all)
