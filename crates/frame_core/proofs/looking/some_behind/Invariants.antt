use Rattle.std.proofs.Common.{◌<◌, take, All}
use Rattle.frame_core.specs.FrameLaw.{Stands}
use Rattle.frame_core.proofs.looking.some_behind.Given as goal

abbrev pub invariant-loop-k : goal.invariant-loop-k
invariant-loop-k l = 0 < l.least → All (Stands l.lemmas l.least) (take l.k l.parents)
