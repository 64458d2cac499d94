use Rattle.std.proofs.Common.{arith, ◌≡◌, ◌+◌, ◌*◌, ◌^◌, ◌<◌, false, length, ◌∙◌, ap, rules, sym, take}
use Rattle.std.proofs.lemmas.List.Elements.{All-push}
use Rattle.std.proofs.lemmas.List.{take_all}
use Rattle.bit_graph.specs.declared.edge.Edge.{Edge}
use Rattle.bit_graph.specs.Meaning.{edge_value, Stands}
use Rattle.bit_arith.specs.Number.{bit, number_of}
use Rattle.bit_arith.proofs.Numbers.{number-push, number_more, carry_step, AllStand-extends, pow_more}
use Rattle.bit_arith.proofs.sums.add_carry.Goals as goal

pub bits-init : goal.bits-init
bits-init c = record {
  extends = search rules;
  a_stand = c.requires.a_stand;
  b_stand = c.requires.b_stand;
  sum_stand = rw c.new-sum.ensures.items (λ k e l. absurd (omega arith));
  over_stands = c.requires.carry_stands;
  count = ap length c.new-sum.ensures.items;
  value = λ v h. ap (λ es. number_of v es + 1 * bit (edge_value v c.args.carry)) c.new-sum.ensures.items ∙ omega arith;
}

pub bits-preserved : goal.bits-preserved
bits-preserved c = record {
  extends = search rules;
  a_stand = AllStand-extends c.bits.graph c.full_adder.new.graph c.args.a.now c.in_ok-low.ensures.extends c.bits.invariant.a_stand;
  b_stand = AllStand-extends c.bits.graph c.full_adder.new.graph c.args.b.now c.in_ok-low.ensures.extends c.bits.invariant.b_stand;
  sum_stand = rw c.in_ok-push.ensures.items (All-push (Stands c.full_adder.new.graph) c.bits.sum.items c.in_ok-low.low
      (AllStand-extends c.bits.graph c.full_adder.new.graph c.bits.sum.items c.in_ok-low.ensures.extends c.bits.invariant.sum_stand) c.in_ok-low.ensures.stands.0);
  over_stands = c.in_ok-low.ensures.stands.1;
  count = search rules;
  value = λ v h.
      let old = c.bits.invariant.value v (c.in_ok-low.ensures.extends.kept v h) in
      let new = c.in_ok-low.ensures.value v h in
      let s : number_of v c.push.new.self.items ≡ number_of v c.bits.sum.items + 2 ^ c.bits.i * bit (edge_value v c.in_ok-low.low) =
      ap (number_of v) c.in_ok-push.ensures.items ∙ number-push (edge_value v) c.bits.sum.items c.in_ok-low.low
      ∙ ap (λ n. number_of v c.bits.sum.items + 2 ^ n * bit (edge_value v c.in_ok-low.low)) c.bits.invariant.count in
      let d : Edge = record { node = 0; negated = false } in
      let in_a : c.bits.i < length c.args.a.now = omega arith in
      let in_b : c.bits.i < length c.args.b.now = omega arith in
      rw (s, pow_more c.bits.i, number_more (edge_value v) c.args.a.now c.bits.i d in_a, number_more (edge_value v) c.args.b.now c.bits.i d in_b)
      (carry_step (2 ^ c.bits.i) (number_of v c.bits.sum.items) (bit (edge_value v c.bits.over)) _ _ _ _ (bit (edge_value v c.in_ok-low.high)) _ _ old new);
}

pub returns-clause-value : goal.returns-clause-value
returns-clause-value c = λ v h.
    let whole : c.bits.i ≡ length c.args.a.now = omega arith in
    let all_a : take c.bits.i c.args.a.now ≡ c.args.a.now = take_all c.bits.i c.args.a.now (omega arith) in
    let all_b : take c.bits.i c.args.b.now ≡ c.args.b.now = take_all c.bits.i c.args.b.now (omega arith) in
    (λ k. number_of v c.bits.sum.items + 2 ^ sym whole k * bit (edge_value v c.bits.over))
    ∙ c.bits.invariant.value v h
    ∙ (λ k. number_of v (all_a k) + number_of v (all_b k) + bit (edge_value v c.args.carry))
