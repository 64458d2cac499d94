-- How many of the edges so far are true.
use Rattle.std.proofs.Common.{◌≡◌, ℕ, Bool, length, take}
use Rattle.bit_graph.specs.Growth.{Extends}
use Rattle.bit_graph.specs.Meaning.{Consistent}
use Rattle.bit_arith.specs.Number.{AllStand, number_of}
use Rattle.bit_numbers.specs.Counts.{count_true}
use Rattle.bit_numbers.proofs.counting.sum_of_edges.Given as goal

abbrev pub invariant-edges : goal.invariant-edges
invariant-edges l = record {
  extends : Extends l.initial.graph l.graph;
  edges_stand : AllStand l.graph l.edges;
  stand : AllStand l.graph l.sum.items;
  length : length l.sum.items ≡ l.width;
  value : (v : ℕ → Bool) → Consistent v l.graph → number_of v l.sum.items ≡ count_true v (take l.i l.edges);
}
