-- The symbols so far.
use Rattle.std.proofs.Common.{◌≡◌, ◌&&◌, ℕ, Bool, nat_lt, not}
use Rattle.std.specs.Prelude.{Some, slice_get}
use Rattle.std.specs.List.{list_any}
use Rattle.smv_value.specs.declared.value.Value.TheVariants as value
use Rattle.value_types.specs.Types.{is_element}
use Rattle.bit_graph.specs.Growth.{Extends}
use Rattle.bit_graph.specs.Meaning.{Consistent, Stands, edge_value}
use Rattle.bit_arith.specs.Number.{AllStand, number_of}
use Rattle.bit_choices.proofs.types.is_other_symbol.Given as goal

abbrev pub invariant-symbols : goal.invariant-symbols
invariant-symbols l = record {
  extends : Extends l.initial.graph l.graph;
  code_stands : AllStand l.graph l.code;
  stands : Stands l.graph l.other;
  value : (v : ℕ → Bool) (s : ℕ) → Consistent v l.graph → slice_get l.symbols (number_of v l.code) ≡ Some s →
      edge_value v l.other ≡ (nat_lt (number_of v l.code) l.j && not (list_any (is_element (value.Sym s)) l.elements));
}
