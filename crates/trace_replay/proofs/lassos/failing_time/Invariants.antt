-- The formula does not fault in any state so far.
use Rattle.std.proofs.Common.{◌≡◌, ◌<◌, ℕ, true}
use Rattle.smv_resolve.specs.Items.{item_by}
use Rattle.trace_replay.specs.Faultless.{is_evaluated}
use Rattle.trace_replay.proofs.lassos.failing_time.Given as goal

abbrev pub invariant-loop-i : goal.invariant-loop-i
invariant-loop-i l = (j : ℕ) → j < l.i → is_evaluated l.typed.scope.program (item_by l.typed.nodes l.spec) l.states l.fn.inputs j ≡ true
