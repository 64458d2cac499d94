-- Types with values, and inputs of a program.
use Rattle.std.proofs.Common.{◌≡◌, ◌∙◌, suc, ◌==◌, Bool, true, false, ◌||◌, List, [], ◌∷◌, length, refl, ap, eq-eqb}
use Rattle.std.specs.List.{list_any}
use Rattle.std.proofs.lemmas.Bool.{and_parts}
use Rattle.std.proofs.lemmas.Nat.{pow_pos}
use Rattle.smv_tree.specs.declared.tree.Program.{Program}
use Rattle.smv_value.specs.declared.value.Value.{Value}
use Rattle.smv_value.specs.declared.value.Value.TheVariants as value
use Rattle.value_types.specs.declared.value_type.ValueType.{ValueType}
use Rattle.value_types.specs.declared.value_type.ValueType.TheVariants as type
use Rattle.value_types.specs.Types.{element_value, is_element, is_of_type, is_type}
use Rattle.value_types.specs.Codes.{HasCode}
use Rattle.value_types.proofs.Coding.{coding}
use Rattle.value_types.proofs.Elements.{and_right, both_true, int_le_refl}
use Rattle.smv_slots.specs.Slots.{slots_of}
use Rattle.smv_slots.specs.Slots.{types_of}
use Rattle.smv_meaning.specs.Runs.{input_slots}
use Rattle.bit_outcomes.proofs.OfAsked.{same_refl}
use Rattle.bit_states.specs.Layouts.{HasTypes, input_types}
use Rattle.bit_states.proofs.OfValues.{are_of, are_types}
use Rattle.bit_states.proofs.OfSlots.{fits_are, slot_types, slots_typed}
use Rattle.bit_states.proofs.Codes.{of_inputs}
use Rattle.bit_conditions.specs.Inhabited.{all_have_values, has_values}
use Rattle.bit_conditions.specs.Told.{SomeInputs}

either_of : (a b : Bool) → a ≡ true → (a || b) ≡ true
either_of true b h = refl
either_of false b h = absurd cc

-- a value of a type that has some

a_value : (t : ValueType) → is_type t ≡ true → has_values t ≡ true → (v : Value) × (is_of_type v t ≡ true)
a_value type.Boolean h e = (value.Bool false, refl)
a_value (type.Word s w) h e =
    let found : (v : Value) × HasCode (type.Word s w) v 0 = (coding (type.Word s w) h).of_code 0 (pow_pos w) in
    (found.0, found.1.typed)
a_value (type.Range low high) h e =
    (value.Int low, both_true _ _ (int_le_refl low) (and_right _ _ h))
a_value (type.Enumeration []) h e = absurd cc
a_value (type.Enumeration (x ∷ es)) h e =
    (element_value x, either_of (is_element (element_value x) x) (list_any (is_element (element_value x)) es) (same_refl (element_value x)))

pub record Fitting (types : List ValueType) : Type 0 where
  pub values : List Value
  pub long : length types ≡ length values
  pub typed : are_of types values ≡ true

some_values : (types : List ValueType) → are_types types ≡ true → all_have_values types ≡ true → Fitting types
some_values [] h e = record { values = []; long = refl; typed = refl }
some_values (t ∷ types) h e =
    let declared = and_parts (is_type t) (are_types types) h in
    let have = and_parts (has_values t) (all_have_values types) e in
    let one : (v : Value) × (is_of_type v t ≡ true) = a_value t declared.0 have.0 in
    let rest : Fitting types = some_values types declared.1 have.1 in
    record {
      values = one.0 ∷ rest.values;
      long = ap suc rest.long;
      typed = both_true (is_of_type one.0 t) (are_of types rest.values) one.1 rest.typed;
    }

-- inputs of a program whose input slots have types with values
pub some_inputs : (p : Program) → HasTypes p → all_have_values (input_types p) ≡ true → SomeInputs p
some_inputs p has have =
    let found : Fitting (input_types p) = some_values (input_types p) (slot_types (types_of p) (input_slots (slots_of p)) has) have in
    record {
      given = found.values;
      typed = fits_are (types_of p) (input_slots (slots_of p)) found.values (slots_typed p of_inputs)
          ∙ both_true (length (input_types p) == length found.values) (are_of (input_types p) found.values) (eq-eqb (length (input_types p)) (length found.values) found.long) found.typed;
    }
