-- The edges so far.
use Rattle.std.proofs.Common.{◌≡◌, ◌+◌, ℕ, Bool, length, map, take}
use Rattle.bit_arith.specs.Number.{AllStand, values_of}
use Rattle.bit_graph.specs.Meaning.{Consistent}
use Rattle.bit_formula.specs.Coding.{kept_below}
use Rattle.bit_formula.proofs.states.read_edges.Given as goal

abbrev pub invariant-loop-place : goal.invariant-loop-place
invariant-loop-place l = record {
  long : length l.edges.items ≡ l.place-index;
  stand : AllStand l.graph l.edges.items;
  value : (v : ℕ → Bool) → Consistent v l.graph → values_of v l.edges.items ≡ map (kept_below l.joint (λ (k : ℕ). v (l.start + k))) (take l.place-index l.places);
}
