-- The parts so far.
use Rattle.std.proofs.Common.{◌≡◌, ◌-◌, ◌++◌, map}
use Rattle.std.specs.List.{flat_map, range_with_len}
use Rattle.smv_flat.specs.Graph.{part_below}
use Rattle.smv_flat.proofs.graph.push_last.Given as goal

abbrev pub invariant-loop-j : goal.invariant-loop-j
invariant-loop-j l = l.list ≡ l.initial.list ++ flat_map (part_below l.slots l.nodes l.k) (map (λ j. (l.ahead, j)) (range_with_len l.first (l.j - l.first)))
