-- All states so far have what invariants ask.
use Rattle.std.proofs.Common.{◌≡◌, ◌<◌, ℕ, true}
use Rattle.trace_replay.specs.Tests.{stays}
use Rattle.trace_replay.proofs.replaying.failing_inv.Given as goal

abbrev pub invariant-loop-i : goal.invariant-loop-i
invariant-loop-i l = (j : ℕ) → j < l.i → stays l.typed.scope.program l.states j ≡ true
