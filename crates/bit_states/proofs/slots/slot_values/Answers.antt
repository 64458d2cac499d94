-- One value more.
use Rattle.std.proofs.Common.{rules, arith, ◌≡◌, ◌∙◌, ◌<◌, List, length, take, drop, ap, sym, subst}
use Rattle.std.proofs.lemmas.List.Elements.{All-drop}
use Rattle.bit_graph.specs.Meaning.{Stands}
use Rattle.bit_arith.specs.Number.{AllStand, values_of}
use Rattle.bit_arith.proofs.Numbers.{AllStand-extends}
use Rattle.bit_values.specs.Bits.{width_of}
use Rattle.bit_operators.specs.declared.symbolic.Symbolic.{Symbolic}
use Rattle.bit_numbers.specs.Counts.{AreDenoted}
use Rattle.bit_states.specs.Values.{decoded_all}
use Rattle.bit_states.proofs.Edges.{stand_more, valued_all, valued_more}
use Rattle.bit_states.proofs.Walking.{long_left}
use Rattle.bit_states.proofs.slots.slot_values.Goals as goal

pub loop-declared-preserved : goal.loop-declared-preserved
loop-declared-preserved c =
    let types = c.args.types.now in
    let i = c.loop-declared.declared-index in
    let t = c.declared-item.result in
    let rest = c.loop-declared.rest.now in
    let low = c.first_edges.result.now in
    let more = c.other_edges-rest.result.now in
    let made = c.loop-declared.values.items in
    let new = c.push.new.self.items in
    let s = c.in_ok-value.value in
    let g = c.loop-declared.graph in
    let h = c.variable.new.graph in
    let lt : i < length types = omega arith in
    let low_is : low ≡ take (width_of t) rest = c.first_edges.ensures ∙ ap (λ n. take n rest) c.width-n.ensures in
    let more_is : more ≡ drop (width_of t) rest = c.other_edges-rest.ensures ∙ ap (λ n. drop n rest) c.width-n.ensures in
    record {
      extends = search rules;
      stand = stand_more g h made new s c.in_ok-value.ensures.extends c.in_ok-push.ensures.items c.loop-declared.invariant.stand c.in_ok-value.ensures.stands;
      rest_stand =
          subst (AllStand h) (sym more_is)
          (All-drop (Stands h) (width_of t) rest (AllStand-extends g h rest c.in_ok-value.ensures.extends c.loop-declared.invariant.rest_stand));
      width = ap length more_is ∙ long_left types rest i t lt c.declared-item.is c.loop-declared.invariant.width;
      valued = λ v holds.
          valued_more v types (values_of v c.args.bits.now) rest low more made new i t s c.requires.declared lt c.declared-item.is low_is more_is c.in_ok-push.ensures.items
          (λ x e. c.in_ok-value.ensures.value v x holds e) (c.loop-declared.invariant.valued v (c.in_ok-value.ensures.extends.kept v holds));
    }

pub returns-clause-values : goal.returns-clause-values
returns-clause-values c = λ v holds codes.
    let types = c.args.types.now in
    let bits = values_of v c.args.bits.now in
    let i = c.loop-declared.declared-index in
    subst (λ (l : List Symbolic). AreDenoted v l (decoded_all types bits)) (sym c.from_vec.ensures)
    (valued_all v types bits c.loop-declared.values.items (values_of v c.loop-declared.rest.now) i (omega arith) (c.loop-declared.invariant.valued v holds) codes)
