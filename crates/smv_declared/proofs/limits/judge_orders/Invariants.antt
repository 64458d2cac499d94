-- What is left of the limits gives the refusal of all.
use Rattle.std.proofs.Common.{◌≡◌, drop}
use Rattle.smv_verdicts.specs.Verdicts.{first_of}
use Rattle.smv_declared.specs.Refusals.{empty_limits}
use Rattle.smv_declared.proofs.limits.judge_orders.Given as goal

abbrev pub invariant-loop-limits : goal.invariant-loop-limits
invariant-loop-limits l = first_of empty_limits (drop l.limits-index l.all) ≡ first_of empty_limits l.fn.all
