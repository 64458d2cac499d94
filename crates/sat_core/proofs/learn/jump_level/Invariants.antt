use Rattle.std.proofs.Common.{◌<◌, length}
use Rattle.sat_core.proofs.learn.jump_level.Given as goal

abbrev pub invariant-loop-i : goal.invariant-loop-i
invariant-loop-i l = l.i < length l.level_starts

abbrev pub decreases-loop-i : goal.decreases-loop-i
decreases-loop-i l = l.i
