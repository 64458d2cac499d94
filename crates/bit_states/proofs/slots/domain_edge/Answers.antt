-- One type more.
use Rattle.std.proofs.Common.{rules, arith, ◌≡◌, ◌∙◌, ◌<◌, length, take, drop, ap, sym, subst}
use Rattle.std.proofs.lemmas.List.Elements.{All-drop}
use Rattle.bit_graph.specs.Meaning.{Stands}
use Rattle.bit_arith.specs.Number.{AllStand, values_of}
use Rattle.bit_arith.proofs.Numbers.{AllStand-extends}
use Rattle.bit_values.specs.Bits.{width_of}
use Rattle.bit_states.proofs.Edges.{tested_more}
use Rattle.bit_states.proofs.Walking.{long_left}
use Rattle.bit_states.proofs.slots.domain_edge.Goals as goal

pub loop-declared-preserved : goal.loop-declared-preserved
loop-declared-preserved c =
    let types = c.args.types.now in
    let i = c.loop-declared.declared-index in
    let t = c.declared-item.result in
    let rest = c.loop-declared.rest.now in
    let low = c.first_edges.result.now in
    let more = c.other_edges-rest.result.now in
    let g = c.loop-declared.graph in
    let h = c.domain.new.graph in
    let k = c.and.new.self in
    let lt : i < length types = omega arith in
    let low_is : low ≡ take (width_of t) rest = c.first_edges.ensures ∙ ap (λ n. take n rest) c.width-n.ensures in
    let more_is : more ≡ drop (width_of t) rest = c.other_edges-rest.ensures ∙ ap (λ n. drop n rest) c.width-n.ensures in
    record {
      extends = search rules;
      stands = c.in_ok-both.ensures.stands;
      rest_stand =
          subst (AllStand k) (sym more_is)
          (All-drop (Stands k) (width_of t) rest
          (AllStand-extends h k rest c.in_ok-both.ensures.extends (AllStand-extends g h rest c.in_ok-one.ensures.extends c.loop-declared.invariant.rest_stand)));
      width = ap length more_is ∙ long_left types rest i t lt c.declared-item.is c.loop-declared.invariant.width;
      value = λ v holds.
          let before = c.in_ok-both.ensures.extends.kept v holds in
          tested_more v types (values_of v c.args.bits.now) rest low more c.loop-declared.all c.in_ok-one.one c.in_ok-both.both i t lt c.declared-item.is low_is more_is
          (c.in_ok-one.ensures.value v before) (c.in_ok-both.ensures.value v holds) (c.loop-declared.invariant.value v (c.in_ok-one.ensures.extends.kept v before));
    }
