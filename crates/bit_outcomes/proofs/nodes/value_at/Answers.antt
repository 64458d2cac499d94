-- The value at its place.
use Rattle.std.proofs.Common.{subst, sym, ◌∙◌}
use Rattle.std.specs.Prelude.{slice_get}
use Rattle.smv_meaning.specs.Outcomes.{valued}
use Rattle.bit_operators.specs.declared.symbolic.Symbolic.{Symbolic}
use Rattle.bit_operators.specs.Denoting.{StandsIn}
use Rattle.bit_outcomes.specs.Telling.{TellsOne}
use Rattle.bit_outcomes.proofs.OfNodes.{value_told}
use Rattle.bit_outcomes.proofs.nodes.value_at.Goals as goal

pub returns-in_ok-copy-clause-stands : goal.returns-in_ok-copy-clause-stands
returns-in_ok-copy-clause-stands c = (
  c.constant.ensures.stands,
  subst (StandsIn c.args.graph.now) (sym (c.in_ok-copy.ensures ∙ c.index-values-i.is)) (c.requires c.args.i c.index-values-i.result c.if-i-values.true),
)

pub returns-in_ok-copy-clause-told : goal.returns-in_ok-copy-clause-told
returns-in_ok-copy-clause-told c = λ v xs h d.
    subst (λ (s : Symbolic). TellsOne v c.constant.result s (valued (slice_get xs c.args.i))) (sym c.in_ok-copy.ensures)
    (value_told v c.constant.result (c.constant.ensures.value v h) c.args.values.now xs c.args.i c.index-values-i.result d c.if-i-values.true c.index-values-i.is)
