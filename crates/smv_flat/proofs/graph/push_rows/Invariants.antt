-- What the nodes so far lead to.
use Rattle.std.proofs.Common.{◌≡◌, ◌++◌, length, map, slice_get}
use Rattle.std.specs.List.{range_with_len}
use Rattle.smv_flat.specs.Graph.{row}
use Rattle.smv_flat.proofs.graph.push_rows.Given as goal

abbrev pub invariant-loop-k : goal.invariant-loop-k
invariant-loop-k l = l.graph.items ≡ l.initial.graph.items ++ map (λ k. row l.slots (length l.nodes) l.ahead k (slice_get l.nodes k)) (range_with_len 0 l.k)
