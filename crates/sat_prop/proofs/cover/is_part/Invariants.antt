use Rattle.std.proofs.Common.{◌≡◌, true, take}
use Rattle.std.specs.List.{list_all}
use Rattle.sat_prop.specs.Trails.{among}
use Rattle.sat_prop.proofs.cover.is_part.Given as goal

abbrev pub invariant-loop-x : goal.invariant-loop-x
invariant-loop-x l = list_all (among l.d) (take l.x-index l.c) ≡ true
