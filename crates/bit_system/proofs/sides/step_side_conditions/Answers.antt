-- The bits of a step are the inputs.
use Rattle.std.proofs.Common.{◌≡◌, ◌∙◌, ℕ, ◌+◌, Bool, List, ap, sym, subst, length, arith}
use Rattle.std.proofs.lemmas.List.FromFn.{length-range_with_len}
use Rattle.bit_arith.specs.Number.{AllStand}
use Rattle.value_types.specs.declared.value_type.ValueType.{ValueType}
use Rattle.smv_meaning.specs.Runs.{is_step}
use Rattle.bit_outcomes.proofs.Kept.{extends_trans}
use Rattle.bit_states.specs.Coding.{inputs_of, next_of, state_of}
use Rattle.bit_states.specs.Layouts.{BitLayout, input_types, input_width, layout_of, state_types, state_width}
use Rattle.bit_conditions.specs.Told.{TellsNowhere, inputs_under, state_under}
use Rattle.bit_conditions.proofs.Kept.{tells_state_kept}
use Rattle.bit_system.specs.Conditions.{edges_of}
use Rattle.bit_system.proofs.Frames.{edges_stand, framed}
use Rattle.bit_system.proofs.OfSides.{tells_as}
use Rattle.bit_system.proofs.sides.step_side_conditions.Goals as goal

abbrev state_bits : BitLayout → List ℕ
state_bits layout = layout.state

abbrev next_bits : BitLayout → List ℕ
next_bits layout = layout.next

abbrev input_bits : BitLayout → List ℕ
input_bits layout = layout.inputs

abbrev types_of_state : BitLayout → List ValueType
types_of_state layout = layout.state_types

abbrev types_of_inputs : BitLayout → List ValueType
types_of_inputs layout = layout.input_types

pub framed_state-requires-clause-types : goal.framed_state-requires-clause-types
framed_state-requires-clause-types c = c.state_types-types.ensures.types ∙ ap types_of_state c.requires.layout

pub framed_state-requires-clause-nowhere : goal.framed_state-requires-clause-nowhere
framed_state-requires-clause-nowhere c = subst (TellsNowhere c.in_ok-graph.graph c.args.typed.now) (sym c.as_slice.ensures) (c.in_ok-none.ensures c.in_ok-graph.graph)

pub framed_state-requires-clause-width : goal.framed_state-requires-clause-width
framed_state-requires-clause-width c = ap length (c.state-first.ensures ∙ ap state_bits c.requires.layout) ∙ length-range_with_len 0 (state_width c.args.typed.now.scope.program)

pub framed_state-requires-clause-stand : goal.framed_state-requires-clause-stand
framed_state-requires-clause-stand c =
    let w = state_width c.args.typed.now.scope.program in
    let g = c.in_ok-graph.graph in
    subst (λ (ns : List ℕ). AllStand g (edges_of ns)) (sym (c.state-first.ensures ∙ ap state_bits c.requires.layout))
    (edges_stand g 0 w (omega (arith, c.requires.named, c.in_ok-graph.ensures.length)))

pub framed_state-requires-2-clause-types : goal.framed_state-requires-2-clause-types
framed_state-requires-2-clause-types c = c.state_types-types.ensures.types ∙ ap types_of_state c.requires.layout

pub framed_state-requires-2-clause-nowhere : goal.framed_state-requires-2-clause-nowhere
framed_state-requires-2-clause-nowhere c =
    subst (TellsNowhere c.framed_state.new.graph c.args.typed.now) (sym c.as_slice-2.ensures) (c.in_ok-none.ensures c.framed_state.new.graph)

pub framed_state-requires-2-clause-width : goal.framed_state-requires-2-clause-width
framed_state-requires-2-clause-width c =
    let w = state_width c.args.typed.now.scope.program in
    ap length (c.next-second.ensures ∙ ap next_bits c.requires.layout) ∙ length-range_with_len w w

pub framed_state-requires-2-clause-stand : goal.framed_state-requires-2-clause-stand
framed_state-requires-2-clause-stand c =
    let w = state_width c.args.typed.now.scope.program in
    let h = c.framed_state.new.graph in
    subst (λ (ns : List ℕ). AllStand h (edges_of ns)) (sym (c.next-second.ensures ∙ ap next_bits c.requires.layout))
    (edges_stand h w w (omega (arith, c.requires.named, c.in_ok-graph.ensures.length, c.in_ok-from.ensures.extends.longer)))

pub framed_inputs-requires-clause-types : goal.framed_inputs-requires-clause-types
framed_inputs-requires-clause-types c = c.input_types-given.ensures.types ∙ ap types_of_inputs c.requires.layout

pub framed_inputs-requires-clause-width : goal.framed_inputs-requires-clause-width
framed_inputs-requires-clause-width c =
    let p = c.args.typed.now.scope.program in
    ap length (c.inputs-between.ensures ∙ ap input_bits c.requires.layout) ∙ length-range_with_len (state_width p + state_width p) (input_width p)

pub framed_inputs-requires-clause-stand : goal.framed_inputs-requires-clause-stand
framed_inputs-requires-clause-stand c =
    let p = c.args.typed.now.scope.program in
    let w = state_width p in
    let m = input_width p in
    let h = c.framed_state-2.new.graph in
    subst (λ (ns : List ℕ). AllStand h (edges_of ns)) (sym (c.inputs-between.ensures ∙ ap input_bits c.requires.layout))
    (edges_stand h (w + w) m
    (omega (arith, c.requires.named, c.in_ok-graph.ensures.length, c.in_ok-from.ensures.extends.longer, c.in_ok-to.ensures.extends.longer)))

pub step_conditions-requires-clause-from : goal.step_conditions-requires-clause-from
step_conditions-requires-clause-from c =
    let f = c.framed_state.new.graph in
    let g = c.framed_state-2.new.graph in
    let h = c.framed_inputs.new.graph in
    tells_state_kept f h (extends_trans f g h c.in_ok-to.ensures.extends c.in_ok-inputs.ensures.extends) c.args.typed.now c.in_ok-from.from c.in_ok-from.ensures.told

pub step_conditions-requires-clause-to : goal.step_conditions-requires-clause-to
step_conditions-requires-clause-to c =
    tells_state_kept c.framed_state-2.new.graph c.framed_inputs.new.graph c.in_ok-inputs.ensures.extends c.args.typed.now c.in_ok-to.to c.in_ok-to.ensures.told

pub returns-clause-inputs : goal.returns-clause-inputs
returns-clause-inputs c =
    let n = c.args.named in
    c.in_ok-step.ensures.extends.inputs n (c.in_ok-inputs.ensures.extends.inputs n (c.in_ok-to.ensures.extends.inputs n (c.in_ok-from.ensures.extends.inputs n c.in_ok-graph.ensures.inputs)))

pub returns-clause-step : goal.returns-clause-step
returns-clause-step c =
    let p = c.args.typed.now.scope.program in
    let from = c.in_ok-from.from.bits in
    let to = c.in_ok-to.to.bits in
    let inputs = c.in_ok-inputs.inputs.bits in
    let first : (v : ℕ → Bool) → state_under p v from ≡ state_of p v =
    λ v. framed (state_types p) v from c.state-first.result.now (layout_of p).state c.in_ok-from.ensures.bits (c.state-first.ensures ∙ ap state_bits c.requires.layout) in
    let second : (v : ℕ → Bool) → state_under p v to ≡ next_of p v =
    λ v. framed (state_types p) v to c.next-second.result.now (layout_of p).next c.in_ok-to.ensures.bits (c.next-second.ensures ∙ ap next_bits c.requires.layout) in
    let between : (v : ℕ → Bool) → inputs_under p v inputs ≡ inputs_of p v =
    λ v. framed (input_types p) v inputs c.inputs-between.result.now (layout_of p).inputs c.in_ok-inputs.ensures.bits (c.inputs-between.ensures ∙ ap input_bits c.requires.layout) in
    tells_as c.step_conditions.new.graph c.in_ok-step.step.items (λ v. is_step p (state_under p v from) (inputs_under p v inputs) (state_under p v to)) (λ v. is_step p (state_of p v) (inputs_of p v) (next_of p v))
    (λ v.
    ap (λ s. is_step p s (inputs_under p v inputs) (state_under p v to)) (first v)
    ∙ ap (λ u. is_step p (state_of p v) u (state_under p v to)) (between v)
    ∙ ap (is_step p (state_of p v) (inputs_of p v)) (second v)) c.in_ok-step.ensures.asked
