-- Each JUSTICE so far is TRUE in some state.
use Rattle.std.proofs.Common.{◌≡◌, ◌<◌, ℕ, true}
use Rattle.trace_replay.specs.Lassos.{is_fair}
use Rattle.trace_replay.proofs.lassos.failing_fair.Given as goal

abbrev pub invariant-loop-i : goal.invariant-loop-i
invariant-loop-i l = (j : ℕ) → j < l.i → is_fair l.typed.scope.program l.states j ≡ true
