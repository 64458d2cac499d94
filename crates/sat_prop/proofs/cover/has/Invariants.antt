use Rattle.std.proofs.Common.{◌≡◌, false, take}
use Rattle.sat_prop.specs.Trails.{among}
use Rattle.sat_prop.proofs.cover.has.Given as goal

abbrev pub invariant-loop-x : goal.invariant-loop-x
invariant-loop-x l = among (take l.x-index l.d) l.l ≡ false
