-- One mark for each slot so far.
use Rattle.std.proofs.Common.{◌≡◌, replicate}
use Rattle.smv_flat.specs.Marks.{free}
use Rattle.smv_flat.proofs.twice.free_slots.Given as goal

abbrev pub invariant-loop-k : goal.invariant-loop-k
invariant-loop-k l = l.taken.items ≡ replicate l.k free
