-- The symbols so far.
use Rattle.std.proofs.Common.{◌≡◌, ◌&&◌, ◌==◌, ℕ, Bool, nat_lt}
use Rattle.std.specs.Prelude.{Some, slice_get}
use Rattle.bit_graph.specs.Growth.{Extends}
use Rattle.bit_graph.specs.Meaning.{Consistent, Stands, edge_value}
use Rattle.bit_arith.specs.Number.{AllStand, number_of}
use Rattle.bit_choices.proofs.symbols.matched.Given as goal

abbrev pub invariant-symbols : goal.invariant-symbols
invariant-symbols l = record {
  extends : Extends l.initial.graph l.graph;
  code_stands : AllStand l.graph l.code;
  other_stands : AllStand l.graph l.other;
  stands : Stands l.graph l.equal;
  value : (v : ℕ → Bool) (s t : ℕ) → Consistent v l.graph → slice_get l.xs (number_of v l.code) ≡ Some s → slice_get l.ys (number_of v l.other) ≡ Some t →
      edge_value v l.equal ≡ (nat_lt (number_of v l.other) l.j && (s == t));
}
