use Rattle.std.proofs.Common.{◌≡◌, true, take}
use Rattle.std.specs.List.{All}
use Rattle.frame_core.specs.Looking.{has_literal}
use Rattle.frame_core.proofs.subset.is_part.Given as goal

abbrev pub invariant-loop-l : goal.invariant-loop-l
invariant-loop-l l = All (λ m. has_literal l.set m ≡ true) (take l.l-index l.clause)
