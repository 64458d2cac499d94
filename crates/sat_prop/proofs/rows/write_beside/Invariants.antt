use Rattle.std.proofs.Common.{◌≡◌, ◌++◌, map, take}
use Rattle.std.specs.List.{filter}
use Rattle.sat_prop.specs.Watches.{cell}
use Rattle.sat_prop.specs.Packing.{is_beside}
use Rattle.sat_prop.proofs.rows.write_beside.Given as goal

abbrev pub invariant-loop-x : goal.invariant-loop-x
invariant-loop-x l = l.words.items ≡ l.fn.words.items ++ map cell (filter (is_beside l.h) (take l.x-index l.c))
