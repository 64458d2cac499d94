-- The bits are the first inputs.
use Rattle.std.proofs.Common.{◌∙◌, ◌+◌, List, ap, arith}
use Rattle.value_types.specs.declared.value_type.ValueType.{ValueType}
use Rattle.bit_states.specs.Layouts.{BitLayout, input_width, state_width}
use Rattle.bit_conditions.proofs.Kept.{tells_nowhere_kept, tells_state_kept}
use Rattle.bit_faults.specs.Valuations.{edges_of}
use Rattle.bit_faults.proofs.OfSides.{edges_stand, input_bits, long_range, next_bits, state_bits}
use Rattle.bit_faults.proofs.valuation.sides_of.Goals as goal

abbrev types_of_state : BitLayout → List ValueType
types_of_state layout = layout.state_types

abbrev types_of_inputs : BitLayout → List ValueType
types_of_inputs layout = layout.input_types

pub state_at-requires-clause-types : goal.state_at-requires-clause-types
state_at-requires-clause-types c = c.state_types-types.ensures.types ∙ ap types_of_state c.requires.layout

pub state_at-requires-clause-stand : goal.state_at-requires-clause-stand
state_at-requires-clause-stand c =
    let w = state_width c.args.typed.now.scope.program in
    edges_stand c.args.graph.now c.state.result.now 0 w (c.state.ensures ∙ ap state_bits c.requires.layout) (omega (arith, c.requires.room))

pub state_at-requires-clause-width : goal.state_at-requires-clause-width
state_at-requires-clause-width c =
    let w = state_width c.args.typed.now.scope.program in
    long_range c.state.result.now 0 w (c.state.ensures ∙ ap state_bits c.requires.layout)

pub state_at-requires-2-clause-types : goal.state_at-requires-2-clause-types
state_at-requires-2-clause-types c = c.state_types-types.ensures.types ∙ ap types_of_state c.requires.layout

pub state_at-requires-2-clause-nowhere : goal.state_at-requires-2-clause-nowhere
state_at-requires-2-clause-nowhere c =
    tells_nowhere_kept c.args.graph.now c.state_at.new.graph c.in_ok-from.ensures.extends c.args.typed.now c.args.nowhere.now c.requires.nowhere

pub state_at-requires-2-clause-stand : goal.state_at-requires-2-clause-stand
state_at-requires-2-clause-stand c =
    let w = state_width c.args.typed.now.scope.program in
    edges_stand c.state_at.new.graph c.next.result.now w w (c.next.ensures ∙ ap next_bits c.requires.layout) (omega (arith, c.requires.room, c.in_ok-from.ensures.extends.longer))

pub state_at-requires-2-clause-width : goal.state_at-requires-2-clause-width
state_at-requires-2-clause-width c =
    let w = state_width c.args.typed.now.scope.program in
    long_range c.next.result.now w w (c.next.ensures ∙ ap next_bits c.requires.layout)

pub inputs_at-requires-clause-types : goal.inputs_at-requires-clause-types
inputs_at-requires-clause-types c = c.input_types.ensures.types ∙ ap types_of_inputs c.requires.layout

pub inputs_at-requires-clause-stand : goal.inputs_at-requires-clause-stand
inputs_at-requires-clause-stand c =
    let w = state_width c.args.typed.now.scope.program in
    let n = input_width c.args.typed.now.scope.program in
    edges_stand c.state_at-2.new.graph c.inputs.result.now (w + w) n (c.inputs.ensures ∙ ap input_bits c.requires.layout)
    (omega (arith, c.requires.room, c.in_ok-from.ensures.extends.longer, c.in_ok-to.ensures.extends.longer))

pub inputs_at-requires-clause-width : goal.inputs_at-requires-clause-width
inputs_at-requires-clause-width c =
    let w = state_width c.args.typed.now.scope.program in
    let n = input_width c.args.typed.now.scope.program in
    long_range c.inputs.result.now (w + w) n (c.inputs.ensures ∙ ap input_bits c.requires.layout)

pub returns-clause-told : goal.returns-clause-told
returns-clause-told c =
    let typed = c.args.typed.now in
    let g = c.state_at.new.graph in
    let h = c.state_at-2.new.graph in
    let k = c.inputs_at.new.graph in
    let from = c.in_ok-from in
    let to = c.in_ok-to in
    let inputs = c.in_ok-inputs in
    record {
      from_bits = from.ensures.bits ∙ ap edges_of (c.state.ensures ∙ ap state_bits c.requires.layout);
      input_bits = inputs.ensures.bits ∙ ap edges_of (c.inputs.ensures ∙ ap input_bits c.requires.layout);
      to_bits = to.ensures.bits ∙ ap edges_of (c.next.ensures ∙ ap next_bits c.requires.layout);
      from = tells_state_kept h k inputs.ensures.extends typed from.from (tells_state_kept g h to.ensures.extends typed from.from from.ensures.told);
      inputs = inputs.ensures.told;
      to = tells_state_kept h k inputs.ensures.extends typed to.to to.ensures.told;
    }
