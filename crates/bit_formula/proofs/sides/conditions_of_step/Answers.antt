-- The bits of a step are the inputs.
use Rattle.std.proofs.Common.{◌≡◌, ◌∙◌, ◌&&◌, ℕ, ◌+◌, ◌≤◌, ◌<◌, All, Bool, List, map, ap, sym, subst, length, arith}
use Rattle.std.proofs.lemmas.List.Elements.{All-map}
use Rattle.std.proofs.lemmas.List.FromFn.{length-range_with_len}
use Rattle.bit_arith.specs.Number.{AllStand}
use Rattle.bit_graph.specs.Meaning.{Consistent, Stands}
use Rattle.smv_meaning.specs.Runs.{are_inputs, is_step}
use Rattle.bit_states.specs.Layouts.{BitLayout, input_types, state_types, state_width}
use Rattle.bit_states.specs.Values.{decoded_all}
use Rattle.bit_conditions.specs.Told.{TellsNowhere, inputs_under, state_under}
use Rattle.bit_conditions.proofs.Kept.{tells_inputs_kept, tells_state_kept}
use Rattle.bit_system.specs.Conditions.{edges_of, input}
use Rattle.bit_system.proofs.Frames.{edges_stand, framed}
use Rattle.bit_formula.specs.Coding.{all_places, inputs_in, joint_layout, joint_width, kept_below, next_in, read_next, state_in}
use Rattle.bit_formula.proofs.Joint.{long_places, places_below}
use Rattle.bit_formula.proofs.sides.conditions_of_step.Goals as goal

pub framed_state-requires-clause-types : goal.framed_state-requires-clause-types
framed_state-requires-clause-types c = c.state_types-types.ensures.types ∙ ap (λ (l : BitLayout). l.state_types) c.requires.layout

pub framed_state-requires-clause-nowhere : goal.framed_state-requires-clause-nowhere
framed_state-requires-clause-nowhere c = subst (TellsNowhere c.in_ok-graph.graph c.args.typed.now) (sym c.as_slice.ensures) (c.in_ok-none.ensures c.in_ok-graph.graph)

pub framed_state-requires-clause-width : goal.framed_state-requires-clause-width
framed_state-requires-clause-width c =
    ap length (c.state-first.ensures ∙ ap (λ (l : BitLayout). l.state) c.requires.layout) ∙ length-range_with_len 0 (state_width c.args.typed.now.scope.program)

pub framed_state-requires-clause-stand : goal.framed_state-requires-clause-stand
framed_state-requires-clause-stand c =
    let w = state_width c.args.typed.now.scope.program in
    let g = c.in_ok-graph.graph in
    subst (λ (ns : List ℕ). AllStand g (edges_of ns)) (sym (c.state-first.ensures ∙ ap (λ (l : BitLayout). l.state) c.requires.layout))
    (edges_stand g 0 w (omega (arith, c.requires.named, c.in_ok-graph.ensures.length)))

pub framed_state-requires-2-clause-types : goal.framed_state-requires-2-clause-types
framed_state-requires-2-clause-types c = c.state_types-types.ensures.types ∙ ap (λ (l : BitLayout). l.state_types) c.requires.layout

pub framed_state-requires-2-clause-nowhere : goal.framed_state-requires-2-clause-nowhere
framed_state-requires-2-clause-nowhere c =
    let h = c.framed_state.new.graph in
    subst (TellsNowhere h c.args.typed.now) (sym c.as_slice-2.ensures)
    (c.in_ok-none.ensures h)

pub framed_state-requires-2-clause-width : goal.framed_state-requires-2-clause-width
framed_state-requires-2-clause-width c =
    let p = c.args.typed.now.scope.program in
    ap length (c.next-second.ensures ∙ ap (λ (l : BitLayout). l.next) c.requires.layout) ∙ length-range_with_len (joint_width p c.args.reads.now) (state_width p)

pub framed_state-requires-2-clause-stand : goal.framed_state-requires-2-clause-stand
framed_state-requires-2-clause-stand c =
    let p = c.args.typed.now.scope.program in
    let h = c.framed_state.new.graph in
    subst (λ (ns : List ℕ). AllStand h (edges_of ns)) (sym (c.next-second.ensures ∙ ap (λ (l : BitLayout). l.next) c.requires.layout))
    (edges_stand h (joint_width p c.args.reads.now) (state_width p)
    (omega (arith, c.requires.named, c.in_ok-graph.ensures.length, c.in_ok-from.ensures.extends.longer)))

pub framed_inputs-requires-clause-types : goal.framed_inputs-requires-clause-types
framed_inputs-requires-clause-types c = c.input_types-given.ensures.types ∙ ap (λ (l : BitLayout). l.input_types) c.requires.layout

pub framed_inputs-requires-clause-width : goal.framed_inputs-requires-clause-width
framed_inputs-requires-clause-width c =
    let p = c.args.typed.now.scope.program in
    ap length (c.inputs-between.ensures ∙ ap (λ (l : BitLayout). l.inputs) c.requires.layout) ∙ long_places (input_types p) (state_width p) c.args.reads.now

pub framed_inputs-requires-clause-stand : goal.framed_inputs-requires-clause-stand
framed_inputs-requires-clause-stand c =
    let p = c.args.typed.now.scope.program in
    let reads = c.args.reads.now in
    let h = c.framed_state-2.new.graph in
    let places = all_places (input_types p) (state_width p) reads in
    let room : c.args.named ≤ length h =
    omega (arith, c.in_ok-graph.ensures.length, c.in_ok-from.ensures.extends.longer, c.in_ok-to.ensures.extends.longer) in
    let below = places_below (input_types p) (state_width p) reads in
    let stand : All (λ k. k < length h) places = λ i d lt. (let b = below i d lt in omega (arith, b, room, c.requires.named)) in
    subst (λ (ns : List ℕ). AllStand h (edges_of ns)) (sym (c.inputs-between.ensures ∙ ap (λ (l : BitLayout). l.inputs) c.requires.layout)) (All-map (Stands h) input places stand)

pub read_inputs-requires-clause-types : goal.read_inputs-requires-clause-types
read_inputs-requires-clause-types c = c.input_types-given.ensures.types ∙ ap (λ (l : BitLayout). l.input_types) c.requires.layout

pub read_inputs-requires-clause-width : goal.read_inputs-requires-clause-width
read_inputs-requires-clause-width c =
    let p = c.args.typed.now.scope.program in
    ap length (c.inputs-between.ensures ∙ ap (λ (l : BitLayout). l.inputs) c.requires.layout) ∙ long_places (input_types p) (state_width p) c.args.reads.now

pub read_inputs-requires-clause-room : goal.read_inputs-requires-clause-room
read_inputs-requires-clause-room c =
    omega (
      arith,
      c.requires.joint,
      c.requires.named,
      c.in_ok-graph.ensures.length,
      c.in_ok-from.ensures.extends.longer,
      c.in_ok-to.ensures.extends.longer,
      c.in_ok-inputs.ensures.extends.longer,
    )

pub read_inputs-requires-clause-fits : goal.read_inputs-requires-clause-fits
read_inputs-requires-clause-fits c = omega (arith, c.requires.joint, c.requires.named, c.ranges.named.fits)

pub step_conditions-requires-clause-from : goal.step_conditions-requires-clause-from
step_conditions-requires-clause-from c =
    let typed = c.args.typed.now in
    let from = c.in_ok-from.from in
    tells_state_kept c.framed_inputs.new.graph c.read_inputs.new.graph c.in_ok-read.ensures.extends typed from
    (tells_state_kept c.framed_state-2.new.graph c.framed_inputs.new.graph c.in_ok-inputs.ensures.extends typed from
    (tells_state_kept c.framed_state.new.graph c.framed_state-2.new.graph c.in_ok-to.ensures.extends typed from c.in_ok-from.ensures.told))

pub step_conditions-requires-clause-inputs : goal.step_conditions-requires-clause-inputs
step_conditions-requires-clause-inputs c =
    tells_inputs_kept c.framed_inputs.new.graph c.read_inputs.new.graph c.in_ok-read.ensures.extends c.args.typed.now c.in_ok-inputs.inputs c.in_ok-inputs.ensures.told

pub step_conditions-requires-clause-to : goal.step_conditions-requires-clause-to
step_conditions-requires-clause-to c =
    let typed = c.args.typed.now in
    let to = c.in_ok-to.to in
    tells_state_kept c.framed_inputs.new.graph c.read_inputs.new.graph c.in_ok-read.ensures.extends typed to
    (tells_state_kept c.framed_state-2.new.graph c.framed_inputs.new.graph c.in_ok-inputs.ensures.extends typed to c.in_ok-to.ensures.told)

pub ask-requires-clause-edge : goal.ask-requires-clause-edge
ask-requires-clause-edge c = omega (arith, c.in_ok-step.ensures.extends.longer, c.in_ok-read.ensures.told.valid_stands)

pub ask-requires-clause-stand : goal.ask-requires-clause-stand
ask-requires-clause-stand c = c.in_ok-step.ensures.asked.stand

pub returns-clause-inputs : goal.returns-clause-inputs
returns-clause-inputs c =
    let named = c.args.named in
    c.in_ok-step.ensures.extends.inputs named
    (c.in_ok-read.ensures.extends.inputs named
    (c.in_ok-inputs.ensures.extends.inputs named
    (c.in_ok-to.ensures.extends.inputs named (c.in_ok-from.ensures.extends.inputs named c.in_ok-graph.ensures.inputs))))

pub returns-clause-step : goal.returns-clause-step
returns-clause-step c =
    let p = c.args.typed.now.scope.program in
    let reads = c.args.reads.now in
    let from = c.in_ok-from.from in
    let to = c.in_ok-to.to in
    let inputs = c.in_ok-inputs.inputs in
    let read = c.in_ok-read.read in
    let h = c.step_conditions.new.graph in
    let firsts = c.state-first.ensures ∙ ap (λ (l : BitLayout). l.state) c.requires.layout in
    let seconds = c.next-second.ensures ∙ ap (λ (l : BitLayout). l.next) c.requires.layout in
    let places = c.inputs-between.ensures ∙ ap (λ (l : BitLayout). l.inputs) c.requires.layout in
    let from_is : (v : ℕ → Bool) → state_under p v from.bits ≡ state_in p reads v =
    λ v. framed (state_types p) v from.bits c.state-first.result.now (joint_layout p reads).state c.in_ok-from.ensures.bits firsts in
    let to_is : (v : ℕ → Bool) → state_under p v to.bits ≡ next_in p reads v =
    λ v. framed (state_types p) v to.bits c.next-second.result.now (joint_layout p reads).next c.in_ok-to.ensures.bits seconds in
    let inputs_are : (v : ℕ → Bool) → inputs_under p v inputs.bits ≡ inputs_in p reads v =
    λ v. framed (input_types p) v inputs.bits c.inputs-between.result.now (joint_layout p reads).inputs c.in_ok-inputs.ensures.bits places in
    let read_is : (v : ℕ → Bool) → Consistent v h → inputs_under p v read.bits ≡ read_next p reads v =
    λ v holds.
    ap (decoded_all (input_types p))
    (c.in_ok-read.ensures.value.read v (c.in_ok-step.ensures.extends.kept v holds) ∙ (λ i. map (kept_below (c.requires.joint i) (λ (k : ℕ). v (c.requires.joint i + k))) (places i))) in
    record {
      stand = c.in_ok-ask.ensures.stand;
      holds = λ v holds.
          let before = c.in_ok-step.ensures.extends.kept v holds in
          c.in_ok-ask.ensures.holds v holds ∙ (λ i. c.in_ok-step.ensures.asked.holds v holds i && c.in_ok-read.ensures.told.valid v before i)
          ∙ (λ i. is_step p (from_is v i) (inputs_are v i) (to_is v i) && are_inputs p (read_is v holds i));
    }
