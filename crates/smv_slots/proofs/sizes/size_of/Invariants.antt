-- The product so far, times that of the dimensions that are left.
use Rattle.std.proofs.Common.{◌≡◌, ◌*◌, drop}
use Rattle.smv_declared.specs.Types.{size_of}
use Rattle.smv_slots.proofs.sizes.size_of.Given as goal

abbrev pub invariant-loop-bounds : goal.invariant-loop-bounds
invariant-loop-bounds l = l.size * size_of (drop l.bounds-index l.dimensions) ≡ size_of l.dimensions
