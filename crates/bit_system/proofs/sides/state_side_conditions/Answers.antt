-- The bits of a state are the inputs.
use Rattle.std.proofs.Common.{◌≡◌, ◌∙◌, ℕ, Bool, List, ap, sym, subst, length, arith}
use Rattle.std.proofs.lemmas.List.FromFn.{length-range_with_len}
use Rattle.bit_graph.specs.Meaning.{HasInputs}
use Rattle.bit_arith.specs.Number.{AllStand}
use Rattle.smv_value.specs.declared.value.Value.{Value}
use Rattle.value_types.specs.declared.value_type.ValueType.{ValueType}
use Rattle.smv_meaning.specs.Runs.{is_first_state, specifications_of}
use Rattle.bit_outcomes.proofs.Kept.{extends_trans}
use Rattle.bit_states.specs.Coding.{state_of}
use Rattle.bit_states.specs.Layouts.{BitLayout, layout_of, state_types, state_width}
use Rattle.bit_conditions.specs.Told.{TellsNowhere, state_under}
use Rattle.bit_conditions.proofs.Kept.{tells_just_kept, tells_state_kept}
use Rattle.bit_system.specs.Conditions.{TellsBad, edges_of}
use Rattle.bit_system.proofs.Frames.{edges_stand, framed}
use Rattle.bit_system.proofs.OfSides.{bad_as, bad_kept, just_as, tells_as}
use Rattle.bit_system.proofs.Pairs.{each_as}
use Rattle.bit_system.proofs.sides.state_side_conditions.Goals as goal

abbrev state_bits : BitLayout → List ℕ
state_bits layout = layout.state

abbrev types_in : BitLayout → List ValueType
types_in layout = layout.state_types

pub framed_state-requires-clause-types : goal.framed_state-requires-clause-types
framed_state-requires-clause-types c = c.state_types-types.ensures.types ∙ ap types_in c.requires.layout

pub framed_state-requires-clause-nowhere : goal.framed_state-requires-clause-nowhere
framed_state-requires-clause-nowhere c = subst (TellsNowhere c.in_ok-graph.graph c.args.typed.now) (sym c.as_slice.ensures) (c.in_ok-none.ensures c.in_ok-graph.graph)

pub framed_state-requires-clause-width : goal.framed_state-requires-clause-width
framed_state-requires-clause-width c = ap length (c.state-bits.ensures ∙ ap state_bits c.requires.layout) ∙ length-range_with_len 0 (state_width c.args.typed.now.scope.program)

pub framed_state-requires-clause-stand : goal.framed_state-requires-clause-stand
framed_state-requires-clause-stand c =
    let w = state_width c.args.typed.now.scope.program in
    let g = c.in_ok-graph.graph in
    let are = c.state-bits.ensures ∙ ap state_bits c.requires.layout in
    let long : length c.state-bits.result.now ≡ w = ap length are ∙ length-range_with_len 0 w in
    subst (λ (ns : List ℕ). AllStand g (edges_of ns)) (sym are) (edges_stand g 0 w (omega (arith, long, c.in_ok-graph.ensures.length)))

pub bad_edges-requires-clause-state : goal.bad_edges-requires-clause-state
bad_edges-requires-clause-state c = tells_state_kept c.framed_state.new.graph c.just_edges.new.graph c.in_ok-fair.ensures.extends c.args.typed.now c.in_ok-state.state c.in_ok-state.ensures.told

pub first_conditions-requires : goal.first_conditions-requires
first_conditions-requires c =
    let f = c.framed_state.new.graph in
    let g = c.just_edges.new.graph in
    let h = c.bad_edges.new.graph in
    tells_state_kept f h (extends_trans f g h c.in_ok-fair.ensures.extends c.in_ok-bad.ensures.extends) c.args.typed.now c.in_ok-state.state c.in_ok-state.ensures.told

pub returns : goal.returns
returns c =
    let p = c.args.typed.now.scope.program in
    let w = state_width p in
    let bits = c.in_ok-state.state.bits in
    let g = c.in_ok-graph.graph in
    let after_just = c.just_edges.new.graph in
    let after_bad = c.bad_edges.new.graph in
    let last = c.first_conditions.new.graph in
    let are = c.state-bits.ensures ∙ ap state_bits c.requires.layout in
    let long : length c.state-bits.result.now ≡ w = ap length are ∙ length-range_with_len 0 w in
    let under : (ℕ → Bool) → List Value = λ v. state_under p v bits in
    let same : (v : ℕ → Bool) → under v ≡ state_of p v = λ v. framed (state_types p) v bits c.state-bits.result.now (layout_of p).state c.in_ok-state.ensures.bits are in
    let grown = c.in_ok-first.ensures.extends in
    let both = extends_trans after_just after_bad last c.in_ok-bad.ensures.extends grown in
    record {
      inputs = both.inputs w (c.in_ok-fair.ensures.extends.inputs w (c.in_ok-state.ensures.extends.inputs w (subst (λ n. HasInputs n g) long c.in_ok-graph.ensures.inputs)));
      first = tells_as last c.in_ok-first.first.items (λ v. is_first_state p (under v)) (λ v. is_first_state p (state_of p v)) (λ v. ap (is_first_state p) (same v)) c.in_ok-first.ensures.asked;
      fair = just_as last p under (state_of p) c.in_ok-fair.fair.items same (tells_just_kept after_just last both p under c.in_ok-fair.fair.items c.in_ok-fair.ensures.told);
      bad = each_as (TellsBad after_bad p under) (TellsBad last p (state_of p)) (specifications_of p) c.in_ok-bad.bad.items c.in_ok-bad.ensures.bad
          (λ spec e tells. bad_as last p under (state_of p) spec e same (bad_kept after_bad last grown p under spec e tells));
    }
