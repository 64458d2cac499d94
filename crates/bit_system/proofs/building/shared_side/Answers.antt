-- The named bits are those of both states and of the inputs.
use Rattle.std.proofs.Common.{rules, ◌≡◌, ◌∙◌, ◌≤◌, ◌+◌, ℕ, List, length, ap, arith}
use Rattle.std.proofs.lemmas.List.FromFn.{length-range_with_len}
use Rattle.smv_tree.specs.declared.tree.Program.{Program}
use Rattle.bit_states.specs.Layouts.{BitLayout, input_width, layout_of, state_width}
use Rattle.bit_system.proofs.building.shared_side.Goals as goal

abbrev state_bits : BitLayout → List ℕ
state_bits layout = layout.state

abbrev input_bits : BitLayout → List ℕ
input_bits layout = layout.inputs

state_long : (p : Program) (layout : BitLayout) (bits : List ℕ) → bits ≡ layout.state → layout ≡ layout_of p → length bits ≡ state_width p
state_long p layout bits bits_are layout_is = ap length (bits_are ∙ ap state_bits layout_is) ∙ length-range_with_len 0 (state_width p)

inputs_long : (p : Program) (layout : BitLayout) (bits : List ℕ) → bits ≡ layout.inputs → layout ≡ layout_of p → length bits ≡ input_width p
inputs_long p layout bits bits_are layout_is = ap length (bits_are ∙ ap input_bits layout_is) ∙ length-range_with_len (state_width p + state_width p) (input_width p)

pub overflow_add-width-2 : goal.overflow_add-width-2
overflow_add-width-2 c =
    let w = state_width c.args.typed.now.scope.program in
    let long : length c.state-width.result.now ≡ w = state_long c.args.typed.now.scope.program _ _ c.state-width.ensures c.requires.layout in
    let given = inputs_long c.args.typed.now.scope.program _ _ c.inputs.ensures c.requires.layout in
    let small : (length c.state-width.result.now + length c.state-width.result.now) + length c.inputs.result.now ≤ 131072 = omega (arith, long, given, c.requires.small) in
    search rules

pub step_side-requires-clause-named : goal.step_side-requires-clause-named
step_side-requires-clause-named c =
    let long = state_long c.args.typed.now.scope.program _ _ c.state-width.ensures c.requires.layout in
    let given = inputs_long c.args.typed.now.scope.program _ _ c.inputs.ensures c.requires.layout in
    omega (arith, long, given)

pub overflow_sub-steps : goal.overflow_sub-steps
overflow_sub-steps c =
    let long = state_long c.args.typed.now.scope.program _ _ c.state-width.ensures c.requires.layout in
    omega (arith, long, c.in_ok-steps.ensures.room)

pub state_side-requires-clause-width : goal.state_side-requires-clause-width
state_side-requires-clause-width c = state_long c.args.typed.now.scope.program _ _ c.state-width.ensures c.requires.layout

pub returns : goal.returns
returns c =
    let long = state_long c.args.typed.now.scope.program _ _ c.state-width.ensures c.requires.layout in
    record {
      types = c.args.typed.now.right_types;
      width = long;
      steps = c.in_ok-steps.ensures;
      states = c.in_ok-states.ensures.side;
      above = omega (arith, long, c.in_ok-steps.ensures.room, c.in_ok-states.ensures.room);
    }
