-- The size of the dimensions so far.
use Rattle.std.proofs.Common.{◌≡◌, take, ◌+◌}
use Rattle.std.specs.Prelude.{min}
use Rattle.smv_declared.specs.Types.{most_slots, size_of}
use Rattle.smv_declared.proofs.tally.size_of.Given as goal

abbrev pub invariant-loop-bounds : goal.invariant-loop-bounds
invariant-loop-bounds l = l.size ≡ min (size_of (take l.bounds-index l.dimensions)) (most_slots + 1)
