-- The bits of the slots of a state are as many as their types have, and codes where they are those of a state.
use Rattle.std.proofs.Common.{◌≡◌, ◌∙◌, ◌&&◌, true, length, ap, sym}
use Rattle.std.specs.List.{list_all}
use Rattle.std.proofs.lemmas.List.{length-map}
use Rattle.value_types.specs.Types.{is_type}
use Rattle.smv_slots.specs.Slots.{slots_of}
use Rattle.smv_slots.specs.Slots.{types_of}
use Rattle.smv_meaning.specs.Runs.{state_slots}
use Rattle.bit_arith.specs.Number.{values_of}
use Rattle.bit_clauses.specs.Asserted.{all_hold}
use Rattle.bit_states.specs.Layouts.{state_types, type_of_slot}
use Rattle.bit_states.specs.Values.{are_codes, decoded_all, width_of_all}
use Rattle.bit_states.proofs.OfSlots.{slot_types}
use Rattle.bit_conditions.specs.Keeping.{all_kept}
use Rattle.bit_conditions.proofs.OfStates.{state_codes}
use Rattle.bit_conditions.proofs.conditions.ask_frozen.Goals as goal

pub ask_kept-requires-clause-declared : goal.ask_kept-requires-clause-declared
ask_kept-requires-clause-declared c =
    let typed = c.args.typed.now in
    let p = typed.scope.program in
    ap (list_all is_type) (c.as_slice-3.ensures ∙ c.in_ok-types.ensures) ∙ slot_types (types_of p) (state_slots (slots_of p)) typed.right_types

pub ask_kept-requires-clause-types : goal.ask_kept-requires-clause-types
ask_kept-requires-clause-types c =
    let p = c.args.typed.now.scope.program in
    ap length (c.as_slice-3.ensures ∙ c.in_ok-types.ensures) ∙ length-map (state_slots (slots_of p)) (type_of_slot (types_of p)) ∙ sym (ap length (c.as_slice-2.ensures ∙ c.in_ok-slots.ensures ∙ ap state_slots (c.as_slice.ensures ∙ c.args.typed.now.laid_out)))

pub ask_kept-requires-clause-width : goal.ask_kept-requires-clause-width
ask_kept-requires-clause-width c = ap length c.as_slice-4.ensures ∙ c.requires.from.width ∙ sym (ap width_of_all (c.as_slice-3.ensures ∙ c.in_ok-types.ensures))

pub ask_kept-requires-clause-next_width : goal.ask_kept-requires-clause-next_width
ask_kept-requires-clause-next_width c = ap length c.as_slice-5.ensures ∙ c.requires.to.width ∙ sym (ap width_of_all (c.as_slice-3.ensures ∙ c.in_ok-types.ensures))

pub returns-clause-holds : goal.returns-clause-holds
returns-clause-holds c = λ v h is next.
    let typed = c.args.typed.now in
    let p = typed.scope.program in
    let types = state_types p in
    let from = c.args.from.now.bits in
    let to = c.args.to.now.bits in
    let types_is : c.as_slice-3.result.now ≡ types = c.as_slice-3.ensures ∙ c.in_ok-types.ensures in
    let slots_is : c.as_slice-2.result.now ≡ state_slots (slots_of p) = c.as_slice-2.ensures ∙ c.in_ok-slots.ensures ∙ ap state_slots (c.as_slice.ensures ∙ typed.laid_out) in
    let code : are_codes c.as_slice-3.result.now (values_of v c.as_slice-4.result.now) ≡ true =
    (λ i. are_codes (types_is i) (values_of v (c.as_slice-4.ensures i))) ∙ sym (state_codes p typed.right_types v from c.requires.from.width) ∙ is in
    let after : are_codes c.as_slice-3.result.now (values_of v c.as_slice-5.result.now) ≡ true =
    (λ i. are_codes (types_is i) (values_of v (c.as_slice-5.ensures i))) ∙ sym (state_codes p typed.right_types v to c.requires.to.width) ∙ next in
    c.in_ok-ask_kept.ensures.holds v h code after
    ∙ (λ i. all_hold v c.args.asked.now.items && all_kept (slots_is i) (decoded_all (types_is i) (values_of v (c.as_slice-4.ensures i))) (decoded_all (types_is i) (values_of v (c.as_slice-5.ensures i))))
