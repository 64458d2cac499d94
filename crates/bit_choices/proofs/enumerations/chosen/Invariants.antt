-- The elements so far, by their codes.
use Rattle.std.proofs.Common.{◌≡◌, ◌<◌, ℕ, Bool}
use Rattle.std.specs.Prelude.{Some, slice_get}
use Rattle.std.specs.Option.{option_map}
use Rattle.smv_value.specs.declared.value.Value.{Value}
use Rattle.value_types.specs.Types.{element_value}
use Rattle.bit_graph.specs.Growth.{Extends}
use Rattle.bit_graph.specs.Meaning.{Consistent}
use Rattle.bit_arith.specs.Number.{AllStand, number_of}
use Rattle.bit_operators.specs.Denoting.{DiscreteStands, discrete_value}
use Rattle.bit_choices.proofs.enumerations.chosen.Given as goal

abbrev pub invariant-elements : goal.invariant-elements
invariant-elements l = record {
  extends : Extends l.initial.graph l.graph;
  bits_stand : AllStand l.graph l.bits;
  stands : DiscreteStands l.graph l.made;
  value : (v : ℕ → Bool) (x : Value) → Consistent v l.graph → number_of v l.bits < l.i → option_map element_value (slice_get l.elements (number_of v l.bits)) ≡ Some x →
      discrete_value v l.made ≡ Some x;
}
