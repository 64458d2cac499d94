-- The places are those of the program's bits.
use Rattle.std.proofs.Common.{◌≡◌, ◌+◌, ℕ, List, ap, arith, length, subst, sym, true}
use Rattle.std.specs.List.{list_all, range_with_len}
use Rattle.value_types.specs.declared.value_type.ValueType.{ValueType}
use Rattle.value_types.specs.Types.{is_type}
use Rattle.smv_slots.specs.Slots.{slots_of}
use Rattle.smv_slots.specs.Slots.{types_of}
use Rattle.smv_meaning.specs.Runs.{input_slots, state_slots}
use Rattle.bit_states.specs.Layouts.{BitLayout}
use Rattle.bit_states.specs.Values.{width_of_all}
use Rattle.bit_states.proofs.OfSlots.{slot_types}
use Rattle.bit_formula.specs.Coding.{all_places, joined_width, others, width_at}
use Rattle.bit_formula.specs.Numbers.{AreInOrder}
use Rattle.bit_formula.proofs.formula_system.places_of.Goals as goal

-- places by the types and the width of a state
abbrev laid : ℕ → List ValueType → List ValueType → List ℕ → BitLayout
laid slots of_state of_inputs reads = record {
  state = range_with_len 0 slots;
  next = range_with_len (joined_width of_inputs slots reads) slots;
  inputs = all_places of_inputs slots reads;
  state_types = of_state;
  input_types = of_inputs;
}

abbrev all_named : ℕ → List ValueType → List ℕ → ℕ
all_named slots of_inputs reads = joined_width of_inputs slots reads + joined_width of_inputs slots reads + width_at of_inputs (others (length of_inputs) reads)

pub joint_places-requires-clause-state : goal.joint_places-requires-clause-state
joint_places-requires-clause-state c =
    let p = c.args.typed.now.scope.program in
    subst (λ (l : List ValueType). list_all is_type l ≡ true) (sym c.in_ok-slots.ensures) (slot_types (types_of p) (state_slots (slots_of p)) c.args.typed.now.right_types)

pub joint_places-requires-clause-inputs : goal.joint_places-requires-clause-inputs
joint_places-requires-clause-inputs c =
    let p = c.args.typed.now.scope.program in
    subst (λ (l : List ValueType). list_all is_type l ≡ true) (sym c.requires.given) (slot_types (types_of p) (input_slots (slots_of p)) c.args.typed.now.right_types)

pub joint_places-requires-clause-small : goal.joint_places-requires-clause-small
joint_places-requires-clause-small c = omega (arith, ap width_of_all c.requires.given, c.requires.narrow)

pub joint_places-requires-clause-order : goal.joint_places-requires-clause-order
joint_places-requires-clause-order c = subst (λ (l : List ValueType). AreInOrder (length l) c.args.reads.now) (sym c.requires.given) c.requires.order
