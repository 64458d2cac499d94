-- What is left gives what all give.
use Rattle.std.proofs.Common.{◌≡◌, [], drop}
use Rattle.smv_value.specs.Results.{result_of}
use Rattle.smv_meaning.specs.Outcomes.{given, operated}
use Rattle.smv_meaning.proofs.operators.gathered.Given as goal

abbrev pub invariant-loop-operand : goal.invariant-loop-operand
invariant-loop-operand l =
    operated (λ vs. given l.place (result_of l.operator vs)) l.values.items (drop l.operand-index l.operands)
    ≡ operated (λ vs. given l.place (result_of l.operator vs)) [] l.operands
