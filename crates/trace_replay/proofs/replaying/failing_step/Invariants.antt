-- There is a step from each state so far.
use Rattle.std.proofs.Common.{◌≡◌, ◌<◌, ℕ, true}
use Rattle.trace_replay.specs.Tests.{goes_on}
use Rattle.trace_replay.proofs.replaying.failing_step.Given as goal

abbrev pub invariant-loop-i : goal.invariant-loop-i
invariant-loop-i l = (j : ℕ) → j < l.i → goes_on l.typed.scope.program l.states l.fn.inputs j ≡ true
