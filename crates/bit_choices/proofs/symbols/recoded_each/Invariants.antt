-- The codes so far.
use Rattle.std.proofs.Common.{◌≡◌, ◌<◌, ℕ, Bool, length}
use Rattle.std.specs.Prelude.{Some, slice_get}
use Rattle.bit_graph.specs.Growth.{Extends}
use Rattle.bit_graph.specs.Meaning.{Consistent}
use Rattle.bit_arith.specs.Number.{AllStand, number_of}
use Rattle.bit_choices.proofs.symbols.recoded_each.Given as goal

abbrev pub invariant-symbols : goal.invariant-symbols
invariant-symbols l = record {
  extends : Extends l.initial.graph l.graph;
  code_stands : AllStand l.graph l.code;
  stand : AllStand l.graph l.made.items;
  length : length l.made.items ≡ l.width;
  value : (v : ℕ → Bool) (s : ℕ) → Consistent v l.graph → number_of v l.code < l.j → slice_get l.from (number_of v l.code) ≡ Some s → slice_get l.to (number_of v l.made.items) ≡ Some s;
}
