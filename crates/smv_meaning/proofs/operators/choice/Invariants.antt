-- What is left gives what all gives.
use Rattle.std.proofs.Common.{◌≡◌, ◌-◌, ◌≤◌, drop, length}
use Rattle.smv_meaning.specs.Outcomes.{choice}
use Rattle.smv_meaning.proofs.operators.choice.Given as goal

abbrev pub invariant-loop-at : goal.invariant-loop-at
invariant-loop-at l = record {
  within : l.at ≤ length l.operands;
  left : choice l.rule l.place (drop l.at l.operands) ≡ choice l.rule l.place l.operands;
}

abbrev pub decreases-loop-at : goal.decreases-loop-at
decreases-loop-at l = length l.operands - l.at
