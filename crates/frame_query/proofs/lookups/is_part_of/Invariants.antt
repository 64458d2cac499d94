use Rattle.std.proofs.Common.{take}
use Rattle.std.specs.List.{All, Contains}
use Rattle.frame_query.proofs.lookups.is_part_of.Given as goal

abbrev pub invariant-loop-l : goal.invariant-loop-l
invariant-loop-l x = All (Contains x.whole) (take x.l-index x.part)
