-- One slot more.
use Rattle.std.proofs.Common.{◌≡◌, ◌∙◌, ◌<◌, ◌≤◌, length, take, drop, ap, arith, subst, sym}
use Rattle.std.proofs.lemmas.List.Elements.{All-drop}
use Rattle.bit_graph.specs.Meaning.{Stands}
use Rattle.bit_arith.specs.Number.{AllStand, values_of}
use Rattle.bit_values.specs.Bits.{width_of}
use Rattle.bit_clauses.specs.Asserted.{all_hold}
use Rattle.bit_states.proofs.Walking.{long_left}
use Rattle.bit_conditions.proofs.OfBits.{kept_done, kept_edges}
use Rattle.bit_conditions.proofs.keeping.ask_kept.Goals as goal

pub loop-i-preserved : goal.loop-i-preserved
loop-i-preserved c =
    let types = c.args.types.now in
    let slots = c.args.slots.now in
    let i = c.loop-i.i in
    let t = c.index-types-i.result in
    let before = c.loop-i.invariant in
    let first = c.loop-i.first.now in
    let second = c.loop-i.second.now in
    let g = c.args.graph.now in
    let low = c.first_edges.result.now in
    let under = c.first_edges-in-loop-i.result.now in
    let more = c.other_edges-first.result.now in
    let rest = c.other_edges-second.result.now in
    let lt : i < length slots = omega arith in
    let in_types : i < length types = omega (arith, lt, c.requires.types) in
    let low_is : low ≡ take (width_of t) first = c.first_edges.ensures ∙ ap (λ n. take n first) c.width-n.ensures in
    let under_is : under ≡ take (width_of t) second = c.first_edges-in-loop-i.ensures ∙ ap (λ n. take n second) c.width-n.ensures in
    let more_is : more ≡ drop (width_of t) first = c.other_edges-first.ensures ∙ ap (λ n. drop n first) c.width-n.ensures in
    let rest_is : rest ≡ drop (width_of t) second = c.other_edges-second.ensures ∙ ap (λ n. drop n second) c.width-n.ensures in
    record {
      first_stand = subst (AllStand g) (sym more_is) (All-drop (Stands g) (width_of t) first before.first_stand);
      second_stand = subst (AllStand g) (sym rest_is) (All-drop (Stands g) (width_of t) second before.second_stand);
      first_width = ap length more_is ∙ long_left types first i t in_types c.index-types-i.is before.first_width;
      second_width = ap length rest_is ∙ long_left types second i t in_types c.index-types-i.is before.second_width;
      stand = c.in_ok-ask_keeps.ensures.stand;
      holds = λ v h code after.
          kept_edges v slots types (values_of v c.args.bits.now) (values_of v c.args.next.now) (all_hold v c.args.asked.now.items) (all_hold v c.loop-i.asked.items) (all_hold v c.ask_keeps.new.asked.items)
          i first second low under more rest _ t c.requires.declared lt in_types c.index-types-i.is before.first_width before.second_width low_is under_is more_is rest_is
          (c.in_ok-ask_keeps.ensures.holds v h) (before.holds v h code after);
    }

pub returns-clause-holds : goal.returns-clause-holds
returns-clause-holds c = λ v h code after.
    let all : length c.args.slots.now ≤ c.loop-i.i = omega arith in
    kept_done c.args.slots.now c.args.types.now (values_of v c.args.bits.now) (values_of v c.args.next.now) (all_hold v c.args.asked.now.items) (all_hold v c.loop-i.asked.items) c.loop-i.i
    (values_of v c.loop-i.first.now) (values_of v c.loop-i.second.now) all (c.loop-i.invariant.holds v h code after)
