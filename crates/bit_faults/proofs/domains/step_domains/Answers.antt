-- The bits are the first inputs, those of the state, of the next one and of the inputs of a step.
use Rattle.std.proofs.Common.{◌≡◌, ◌∙◌, ◌+◌, ◌++◌, ℕ, Bool, List, length, map, refl, ap, sym, subst, arith}
use Rattle.std.specs.List.{range_with_len}
use Rattle.std.proofs.lemmas.List.{length-map, map-append}
use Rattle.value_types.specs.declared.value_type.ValueType.{ValueType}
use Rattle.bit_graph.specs.declared.edge.Edge.{Edge}
use Rattle.bit_graph.specs.Meaning.{edge_value}
use Rattle.bit_arith.specs.Number.{AllStand, values_of}
use Rattle.bit_states.specs.Layouts.{BitLayout, input_types, input_width, layout_of, state_types, state_width}
use Rattle.bit_states.specs.Values.{width_of_all}
use Rattle.bit_faults.specs.Mending.{coded}
use Rattle.bit_faults.specs.Valuations.{edges_of, input}
use Rattle.bit_faults.proofs.OfSides.{edge_values, edges_stand, input_bits, long_range, next_bits, state_bits}
use Rattle.bit_faults.proofs.domains.step_domains.Goals as goal

abbrev types_of_state : BitLayout → List ValueType
types_of_state layout = layout.state_types

abbrev types_of_inputs : BitLayout → List ValueType
types_of_inputs layout = layout.input_types

-- as many edges as the types have bits
wide : (edges made : List Edge) (bits : List ℕ) (types declared : List ValueType) (start w : ℕ) → edges ≡ made → made ≡ edges_of bits → bits ≡ range_with_len start w → types ≡ declared →
    width_of_all declared ≡ w → length edges ≡ width_of_all types
wide edges made bits types declared start w is made_is at types_is w_is =
    ap length (is ∙ made_is) ∙ length-map bits input ∙ long_range bits start w at ∙ sym (ap width_of_all types_is ∙ w_is)

-- the values of the edges of some slots
coded_part : (v : ℕ → Bool) (edges made : List Edge) (bits there : List ℕ) (types declared : List ValueType) → edges ≡ made → made ≡ edges_of bits → bits ≡ there → types ≡ declared →
    coded types (values_of v edges) ≡ coded declared (map v there)
coded_part v edges made bits there types declared is made_is at types_is =
    (λ i. coded (types_is i) (values_of v ((is ∙ made_is) i))) ∙ ap (coded declared) (edge_values v bits ∙ ap (map v) at)

pub domains_of-requires-clause-width : goal.domains_of-requires-clause-width
domains_of-requires-clause-width c =
    let p = c.args.typed.now.scope.program in
    wide c.as_slice.result.now c.in_ok-of_state.of_state c.state.result.now c.state_types-types.result.now (state_types p) 0 (state_width p) c.as_slice.ensures c.in_ok-of_state.ensures
    (c.state.ensures ∙ ap state_bits c.requires.layout) (c.state_types-types.ensures.types ∙ ap types_of_state c.requires.layout) refl

pub domains_of-requires-clause-bits_stand : goal.domains_of-requires-clause-bits_stand
domains_of-requires-clause-bits_stand c =
    let g = c.args.graph.now in
    let w = state_width c.args.typed.now.scope.program in
    subst (AllStand g) (sym (c.as_slice.ensures ∙ c.in_ok-of_state.ensures))
    (edges_stand g c.state.result.now 0 w (c.state.ensures ∙ ap state_bits c.requires.layout) (omega (arith, c.requires.room)))

pub domains_of-requires-2-clause-width : goal.domains_of-requires-2-clause-width
domains_of-requires-2-clause-width c =
    let p = c.args.typed.now.scope.program in
    wide c.as_slice-2.result.now c.in_ok-of_next.of_next c.next.result.now c.state_types-types.result.now (state_types p) (state_width p) (state_width p) c.as_slice-2.ensures c.in_ok-of_next.ensures
    (c.next.ensures ∙ ap next_bits c.requires.layout) (c.state_types-types.ensures.types ∙ ap types_of_state c.requires.layout) refl

pub domains_of-requires-2-clause-bits_stand : goal.domains_of-requires-2-clause-bits_stand
domains_of-requires-2-clause-bits_stand c =
    let g = c.domains_of.new.graph in
    let w = state_width c.args.typed.now.scope.program in
    subst (AllStand g) (sym (c.as_slice-2.ensures ∙ c.in_ok-of_next.ensures))
    (edges_stand g c.next.result.now w w (c.next.ensures ∙ ap next_bits c.requires.layout) (omega (arith, c.requires.room, c.in_ok-made.ensures.extends.longer)))

pub domains_of-requires-3-clause-width : goal.domains_of-requires-3-clause-width
domains_of-requires-3-clause-width c =
    let p = c.args.typed.now.scope.program in
    wide c.as_slice-3.result.now c.in_ok-of_inputs.of_inputs c.inputs.result.now c.input_types-input_types.result.now (input_types p) (state_width p + state_width p) (input_width p) c.as_slice-3.ensures
    c.in_ok-of_inputs.ensures (c.inputs.ensures ∙ ap input_bits c.requires.layout) (c.input_types-input_types.ensures.types ∙ ap types_of_inputs c.requires.layout) refl

pub domains_of-requires-3-clause-bits_stand : goal.domains_of-requires-3-clause-bits_stand
domains_of-requires-3-clause-bits_stand c =
    let g = c.domains_of-2.new.graph in
    let p = c.args.typed.now.scope.program in
    let w = state_width p in
    subst (AllStand g) (sym (c.as_slice-3.ensures ∙ c.in_ok-of_inputs.ensures))
    (edges_stand g c.inputs.result.now (w + w) (input_width p) (c.inputs.ensures ∙ ap input_bits c.requires.layout)
    (omega (arith, c.requires.room, c.in_ok-made.ensures.extends.longer, c.in_ok-second.ensures.extends.longer)))

pub returns-clause-value : goal.returns-clause-value
returns-clause-value c = λ v ok.
    let p = c.args.typed.now.scope.program in
    let made = c.in_ok-made.made.items in
    let second = c.in_ok-second.second.items in
    let third = c.in_ok-third.third.items in
    let middle = c.in_ok-third.ensures.extends.kept v ok in
    let early = c.in_ok-second.ensures.extends.kept v middle in
    let types_is = c.state_types-types.ensures.types ∙ ap types_of_state c.requires.layout in
    let first_is : values_of v made ≡ coded (state_types p) (map v (layout_of p).state) =
    c.in_ok-made.ensures.value v early
    ∙ coded_part v c.as_slice.result.now c.in_ok-of_state.of_state c.state.result.now (layout_of p).state c.state_types-types.result.now (state_types p) c.as_slice.ensures c.in_ok-of_state.ensures
    (c.state.ensures ∙ ap state_bits c.requires.layout) types_is in
    let second_is : values_of v second ≡ coded (state_types p) (map v (layout_of p).next) =
    c.in_ok-second.ensures.value v middle
    ∙ coded_part v c.as_slice-2.result.now c.in_ok-of_next.of_next c.next.result.now (layout_of p).next c.state_types-types.result.now (state_types p) c.as_slice-2.ensures c.in_ok-of_next.ensures
    (c.next.ensures ∙ ap next_bits c.requires.layout) types_is in
    let third_is : values_of v third ≡ coded (input_types p) (map v (layout_of p).inputs) =
    c.in_ok-third.ensures.value v ok
    ∙ coded_part v c.as_slice-3.result.now c.in_ok-of_inputs.of_inputs c.inputs.result.now (layout_of p).inputs c.input_types-input_types.result.now (input_types p) c.as_slice-3.ensures c.in_ok-of_inputs.ensures
    (c.inputs.ensures ∙ ap input_bits c.requires.layout) (c.input_types-input_types.ensures.types ∙ ap types_of_inputs c.requires.layout) in
    ap (values_of v) (c.in_ok-extend_from_slice-2.ensures.items ∙ (λ i. c.in_ok-extend_from_slice.ensures.items i ++ c.deref-2.ensures.value i))
    ∙ map-append (edge_value v) (made ++ c.deref.result.now) third
    ∙ (λ i. map-append (edge_value v) made c.deref.result.now i ++ third_is i)
    ∙ (λ i. (first_is i ++ (ap (values_of v) c.deref.ensures.value ∙ second_is) i) ++ coded (input_types p) (map v (layout_of p).inputs))
