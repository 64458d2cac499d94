-- The edges so far have the values of the bits so far.
use Rattle.std.proofs.Common.{◌≡◌, ℕ, Bool, length, take}
use Rattle.bit_graph.specs.Meaning.{Consistent}
use Rattle.bit_arith.specs.Number.{AllStand, values_of}
use Rattle.bit_values.proofs.domains.constant_edges.Given as goal

abbrev pub invariant-bits : goal.invariant-bits
invariant-bits l = record {
  stand : AllStand l.graph l.edges.items;
  count : length l.edges.items ≡ l.bit-index;
  value : (v : ℕ → Bool) → Consistent v l.graph → values_of v l.edges.items ≡ take l.bit-index l.bits;
}
