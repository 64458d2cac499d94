-- Faults of items: an evaluation that stops, or a value that is assigned and is none of the variable's type (an own
-- choice of this project).
use Rattle.std.specs.Prelude.{◌≡◌, ℕ, Bool, true, false, not, List, Option, None, Some, option_and_then, slice_get, if◌then◌else◌}
use Rattle.std.specs.List.{list_all}
use Rattle.std.specs.Option.{is_none}
use Rattle.smv_tree.specs.declared.place.Place.{Place}
use Rattle.smv_tree.specs.declared.tree.Program.{Program}
use Rattle.smv_tree.specs.declared.tree.SpecificationKind.TheVariants as claim
use Rattle.smv_value.specs.declared.value.FaultRule.{FaultRule}
use Rattle.smv_value.specs.declared.value.FaultRule.TheVariants as fault
use Rattle.smv_value.specs.declared.value.Value.{Value}
use Rattle.smv_resolve.specs.declared.item.ItemKind.{ItemKind}
use Rattle.smv_resolve.specs.declared.item.ItemKind.TheVariants as item
use Rattle.smv_resolve.specs.Items.{ResolvedItem}
use Rattle.smv_layout.specs.Layout.{items_of}
use Rattle.smv_resolve.specs.Resolved.{Resolved}
use Rattle.smv_slots.specs.declared.slot.Slot.{Slot}
use Rattle.smv_slots.specs.Slots.{slots_of, types_of}
use Rattle.value_types.specs.declared.value_type.ValueType.{ValueType}
use Rattle.value_types.specs.Types.{is_of_type}
use Rattle.smv_meaning.specs.declared.outcome.Evaluation.{Evaluation}
use Rattle.smv_meaning.specs.declared.outcome.Evaluation.TheVariants.{Values}
use Rattle.smv_meaning.specs.Formulas.{fault_in, formula_fault}
use Rattle.smv_meaning.specs.Runs.{are_inputs, is_state, item_outcome}

-- the slot that is assigned: a variable, by its name or as a parameter was given it
abbrev pub slot_assigned : Resolved → Option ℕ
slot_assigned (Resolved.Slot place n) = Some n
slot_assigned (Resolved.Named place naming r) = slot_assigned r
slot_assigned other = None

-- its type, where these are the types of all slots
abbrev pub type_assigned : List ValueType → Option Resolved → Option ValueType
type_assigned types target = option_and_then (slice_get types) (option_and_then slot_assigned target)

-- some value is none of the type
abbrev pub is_outside : Option ValueType → Evaluation → Bool
is_outside (Some t) (Values vs) = not (list_all (λ v. is_of_type v t) vs)
is_outside declared e = false

-- The fault of a value that is assigned to a variable of this type, or of what is asked for. A value is out of range
-- where the right side begins.
abbrev pub fault_of_value : Option ValueType → Place → Evaluation → Option (FaultRule × Place)
fault_of_value declared begins e = if is_outside declared e then Some (fault.OutOfRange, begins) else fault_in e

-- an item of this kind speaks of paths
abbrev pub speaks_of_paths : ItemKind → Bool
speaks_of_paths (item.Specification claim.Temporal) = true
speaks_of_paths other = false

-- The fault of an item at a valuation: in the state s, or in the step from it with the inputs u to the state t, of
-- which the item speaks. Of a temporal formula it is the first of its parts'.
abbrev pub item_fault : List ValueType → List Slot → List Value → List Value → List Value → ResolvedItem → Option (FaultRule × Place)
item_fault types slots s u t x =
    if speaks_of_paths x.kind then formula_fault slots s u x.value
    else fault_of_value (type_assigned types x.target) x.begins (item_outcome slots s u t x.value x.kind)

-- no item faults, specifications among them, in any state or step of the declared types, reached or not
abbrev pub IsFaultFree : Program → Type 0
IsFaultFree p = (s u t : List Value) → is_state p s ≡ true → are_inputs p u ≡ true → is_state p t ≡ true →
    list_all (λ (x : ResolvedItem). is_none (item_fault (types_of p) (slots_of p) s u t x)) (items_of p) ≡ true
