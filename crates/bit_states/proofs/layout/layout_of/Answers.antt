-- The types of slots are types.
use Rattle.std.proofs.Common.{◌≡◌, true, List, sym, subst}
use Rattle.std.specs.List.{list_all}
use Rattle.value_types.specs.declared.value_type.ValueType.{ValueType}
use Rattle.value_types.specs.Types.{is_type}
use Rattle.smv_slots.specs.Slots.{slots_of}
use Rattle.smv_slots.specs.Slots.{types_of}
use Rattle.smv_meaning.specs.Runs.{input_slots, state_slots}
use Rattle.bit_states.proofs.OfSlots.{slot_types}
use Rattle.bit_states.proofs.layout.layout_of.Goals as goal

pub laid_out-requires-clause-of_state : goal.laid_out-requires-clause-of_state
laid_out-requires-clause-of_state c =
    let p = c.args.typed.now.scope.program in
    subst (λ (l : List ValueType). list_all is_type l ≡ true) (sym c.in_ok-of_state.ensures) (slot_types (types_of p) (state_slots (slots_of p)) c.requires)

pub laid_out-requires-clause-of_inputs : goal.laid_out-requires-clause-of_inputs
laid_out-requires-clause-of_inputs c =
    let p = c.args.typed.now.scope.program in
    subst (λ (l : List ValueType). list_all is_type l ≡ true) (sym c.in_ok-of_inputs.ensures) (slot_types (types_of p) (input_slots (slots_of p)) c.requires)
