use Rattle.std.proofs.Common.{◌<◌, ℕ, false}
use Rattle.frame_core.specs.Differences.{IsSameSystem}
use Rattle.frame_core.specs.FrameLaw.{system_at}
use Rattle.frame_core.proofs.comparing.first_unlike.Given as goal

abbrev pub invariant-loop-j : goal.invariant-loop-j
invariant-loop-j l = (k : ℕ) → k < l.j → IsSameSystem false (system_at l.systems 0) (system_at l.systems k)
