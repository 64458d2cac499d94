use Rattle.std.proofs.Common.{◌≡◌, take}
use Rattle.frame_query.proofs.attempting.copy_parents.Given as goal

abbrev pub invariant-parents : goal.invariant-parents
invariant-parents l = l.copies.items ≡ take l.p-index l.parents
