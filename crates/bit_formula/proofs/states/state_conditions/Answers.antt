-- The bits of a state are the inputs.
use Rattle.std.proofs.Common.{◌≡◌, ◌∙◌, ◌&&◌, ℕ, ◌++◌, Bool, List, [], map, ap, sym, subst, length, arith}
use Rattle.std.proofs.lemmas.List.FromFn.{length-range_with_len}
use Rattle.bit_arith.specs.Number.{AllStand}
use Rattle.bit_graph.specs.Meaning.{Consistent, HasInputs}
use Rattle.smv_value.specs.declared.value.Value.{Value}
use Rattle.smv_slots.specs.Slots.{slots_of}
use Rattle.smv_resolve.specs.Resolved.{Resolved}
use Rattle.smv_formulas.specs.Says.{atom_parts}
use Rattle.smv_meaning.specs.Runs.{are_inputs, is_first_state, is_state, is_true}
use Rattle.smv_meaning.specs.Values.{outcome}
use Rattle.bit_states.specs.Layouts.{BitLayout, input_types, state_types, state_width}
use Rattle.bit_states.specs.Values.{decoded_all}
use Rattle.bit_conditions.specs.Asked.{is_just_in, justices_of}
use Rattle.bit_conditions.specs.Told.{TellsNowhere, inputs_under, state_under}
use Rattle.bit_conditions.proofs.Kept.{edges_kept, tells_inputs_kept, tells_state_kept}
use Rattle.bit_system.specs.Conditions.{edges_of}
use Rattle.bit_system.proofs.Frames.{edges_stand, framed}
use Rattle.bit_formula.specs.Coding.{joint_layout, joint_width, kept_below, read_inputs, state_in}
use Rattle.bit_formula.proofs.Joint.{long_places, plain}
use Rattle.bit_formula.proofs.OfStates.{defined_told}
use Rattle.bit_formula.proofs.states.state_conditions.Goals as goal

pub framed_state-requires-clause-types : goal.framed_state-requires-clause-types
framed_state-requires-clause-types c = c.state_types-types.ensures.types ∙ ap (λ (l : BitLayout). l.state_types) c.requires.layout

pub framed_state-requires-clause-nowhere : goal.framed_state-requires-clause-nowhere
framed_state-requires-clause-nowhere c = subst (TellsNowhere c.in_ok-graph.graph c.args.typed.now) (sym c.as_slice.ensures) (c.in_ok-none.ensures c.in_ok-graph.graph)

pub framed_state-requires-clause-width : goal.framed_state-requires-clause-width
framed_state-requires-clause-width c =
    ap length (c.state-bits.ensures ∙ ap (λ (l : BitLayout). l.state) c.requires.layout) ∙ length-range_with_len 0 (state_width c.args.typed.now.scope.program)

pub framed_state-requires-clause-stand : goal.framed_state-requires-clause-stand
framed_state-requires-clause-stand c =
    let w = state_width c.args.typed.now.scope.program in
    let g = c.in_ok-graph.graph in
    subst (λ (ns : List ℕ). AllStand g (edges_of ns)) (sym (c.state-bits.ensures ∙ ap (λ (l : BitLayout). l.state) c.requires.layout))
    (edges_stand g 0 w (omega (arith, c.requires.joint, c.in_ok-graph.ensures.length)))

pub read_inputs-requires-clause-types : goal.read_inputs-requires-clause-types
read_inputs-requires-clause-types c = c.input_types.ensures.types ∙ ap (λ (l : BitLayout). l.input_types) c.requires.layout

pub read_inputs-requires-clause-width : goal.read_inputs-requires-clause-width
read_inputs-requires-clause-width c =
    let p = c.args.typed.now.scope.program in
    ap length (c.inputs.ensures ∙ ap (λ (l : BitLayout). l.inputs) c.requires.layout) ∙ long_places (input_types p) (state_width p) c.args.reads.now

pub read_inputs-requires-clause-room : goal.read_inputs-requires-clause-room
read_inputs-requires-clause-room c = omega (arith, c.in_ok-graph.ensures.length, c.in_ok-state.ensures.extends.longer)

pub defined_edges-requires-clause-nowhere : goal.defined_edges-requires-clause-nowhere
defined_edges-requires-clause-nowhere c =
    let k = c.read_inputs.new.graph in
    subst (TellsNowhere k c.args.typed.now) (sym c.as_slice-2.ensures) (c.in_ok-none.ensures k)

pub defined_edges-requires-clause-state : goal.defined_edges-requires-clause-state
defined_edges-requires-clause-state c =
    tells_state_kept c.framed_state.new.graph c.read_inputs.new.graph c.in_ok-inputs.ensures.extends c.args.typed.now c.in_ok-state.state c.in_ok-state.ensures.told

pub first_with_inputs-requires-clause-state : goal.first_with_inputs-requires-clause-state
first_with_inputs-requires-clause-state c =
    let g = c.framed_state.new.graph in
    let h = c.read_inputs.new.graph in
    let typed = c.args.typed.now in
    tells_state_kept h c.defined_edges.new.graph c.in_ok-defined.ensures.extends typed c.in_ok-state.state
    (tells_state_kept g h c.in_ok-inputs.ensures.extends typed c.in_ok-state.state c.in_ok-state.ensures.told)

pub first_with_inputs-requires-clause-inputs : goal.first_with_inputs-requires-clause-inputs
first_with_inputs-requires-clause-inputs c =
    tells_inputs_kept c.read_inputs.new.graph c.defined_edges.new.graph c.in_ok-defined.ensures.extends c.args.typed.now c.in_ok-inputs.inputs c.in_ok-inputs.ensures.told

pub returns : goal.returns
returns c =
    let p = c.args.typed.now.scope.program in
    let reads = c.args.reads.now in
    let parts = atom_parts c.args.typed.now.nodes c.args.atoms.now in
    let joint = joint_width p reads in
    let h = c.first_with_inputs.new.graph in
    let state = c.in_ok-state.state in
    let inputs = c.in_ok-inputs.inputs in
    let bits_are = c.state-bits.ensures ∙ ap (λ (l : BitLayout). l.state) c.requires.layout in
    let places_are = c.inputs.ensures ∙ ap (λ (l : BitLayout). l.inputs) c.requires.layout in
    let state_is : (v : ℕ → Bool) → state_under p v state.bits ≡ state_in p reads v =
    λ v. framed (state_types p) v state.bits c.state-bits.result.now (joint_layout p reads).state c.in_ok-state.ensures.bits bits_are in
    let read_is : (v : ℕ → Bool) → Consistent v h → inputs_under p v inputs.bits ≡ read_inputs p reads v =
    λ v holds.
    ap (decoded_all (input_types p))
    (c.in_ok-inputs.ensures.value.read v (c.in_ok-defined.ensures.extends.kept v (c.in_ok-first.ensures.extends.kept v holds))
    ∙ (λ i. map (kept_below (c.requires.joint i) (λ (k : ℕ). v (plain k i))) (places_are i))) in
    let same : List Value → List Value → List Bool =
    λ s u. map (is_just_in p s) (justices_of p) ++ map (λ (e : Resolved). (is_state p s && are_inputs p u) && is_true (outcome (slots_of p) s u [] e)) parts in
    record {
      inputs = c.in_ok-first.ensures.extends.inputs joint
          (c.in_ok-defined.ensures.extends.inputs joint
          (c.in_ok-inputs.ensures.extends.inputs joint
          (c.in_ok-state.ensures.extends.inputs joint (subst (λ n. HasInputs n c.in_ok-graph.graph) c.requires.joint c.in_ok-graph.ensures.inputs))));
      first = record {
        stand = c.in_ok-first.ensures.told.stand;
        holds = λ v holds. c.in_ok-first.ensures.told.holds v holds ∙ (λ i. is_first_state p (state_is v i) && are_inputs p (read_is v holds i));
      };
      stand = edges_kept c.defined_edges.new.graph h c.in_ok-first.ensures.extends c.in_ok-defined.defined.edges.items c.in_ok-defined.ensures.stand;
      told = λ v holds.
          c.in_ok-defined.ensures.told v (c.in_ok-first.ensures.extends.kept v holds) ∙ (λ i. same (state_is v i) (read_is v holds i)) ∙ defined_told p reads parts v;
      justices = c.in_ok-defined.ensures.justices;
    }
