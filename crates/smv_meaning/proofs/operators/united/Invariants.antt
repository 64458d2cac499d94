-- What is left gives what all give.
use Rattle.std.proofs.Common.{◌≡◌, [], drop}
use Rattle.smv_meaning.specs.Outcomes.{united}
use Rattle.smv_meaning.proofs.operators.united.Given as goal

abbrev pub invariant-loop-operand : goal.invariant-loop-operand
invariant-loop-operand l = united l.all (drop l.operand-index l.operands) ≡ united [] l.operands
