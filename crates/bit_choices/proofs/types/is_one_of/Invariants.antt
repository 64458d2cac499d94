-- The elements so far.
use Rattle.std.proofs.Common.{◌≡◌, ℕ, Bool, take}
use Rattle.std.specs.List.{list_any}
use Rattle.smv_value.specs.declared.value.Value.TheVariants as value
use Rattle.value_types.specs.Types.{is_element}
use Rattle.bit_graph.specs.Growth.{Extends}
use Rattle.bit_graph.specs.Meaning.{Consistent, Stands, edge_value}
use Rattle.bit_arith.specs.Number.{AllStand}
use Rattle.bit_operators.specs.Denoting.{integer_of}
use Rattle.bit_choices.proofs.types.is_one_of.Given as goal

abbrev pub invariant-elements : goal.invariant-elements
invariant-elements l = record {
  extends : Extends l.initial.graph l.graph;
  number_stands : AllStand l.graph l.number;
  stands : Stands l.graph l.any;
  value : (v : ℕ → Bool) → Consistent v l.graph → edge_value v l.any ≡ list_any (is_element (value.Int (integer_of v l.number))) (take l.i l.elements);
}
