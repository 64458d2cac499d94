-- The value of one operand more.
use Rattle.std.proofs.Common.{◌∙◌, ◌+◌, List, drop, sym, ap}
use Rattle.smv_value.specs.declared.value.Value.{Value}
use Rattle.smv_value.specs.Results.{result_of}
use Rattle.smv_meaning.specs.declared.outcome.Evaluation.{Evaluation}
use Rattle.smv_meaning.specs.Outcomes.{given, operated}
use Rattle.smv_meaning.proofs.Operating.{operated_more}
use Rattle.smv_meaning.proofs.operators.gathered.Goals as goal

pub loop-operand-preserved : goal.loop-operand-preserved
loop-operand-preserved c =
    let i = c.loop-operand.operand-index in
    let operands = c.args.operands.now in
    let f : List Value → Evaluation = λ vs. given c.args.place (result_of c.args.operator vs) in
    ap (λ (vs : List Value). operated f vs (drop (i + 1) operands)) c.in_ok-push-in-Some.ensures.items
    ∙ sym (operated_more c.loop-operand.values.items operands i c.operand-item.result c.loop-operand-test.true c.operand-item.is f c.in-Some.v (sym c.value.ensures ∙ c.in-Some.is))
    ∙ c.loop-operand.invariant
