use Rattle.std.proofs.Common.{arith, rules, ◌^◌, ◌<◌, false, length, take, ◌∙◌, ap, sym, eqb, ltb, ◌&&◌, cond, get_or, ◌≡◌}
use Rattle.std.proofs.lemmas.List.{take_all}
use Rattle.bit_graph.specs.declared.edge.Edge.{Edge}
use Rattle.bit_graph.specs.Meaning.{edge_value}
use Rattle.bit_arith.specs.Number.{bit, number_of}
use Rattle.bit_arith.proofs.Numbers.{number-take_lt, number_more, AllStand-extends, eq_step, less_step}
use Rattle.bit_arith.proofs.choices.compare_numbers.Goals as goal

pub bits-preserved : goal.bits-preserved
bits-preserved c = record {
  extends = search rules;
  a_stand = AllStand-extends c.bits.graph c.compare_bit.new.graph c.args.a.now c.in_ok-same.ensures.extends c.bits.invariant.a_stand;
  b_stand = AllStand-extends c.bits.graph c.compare_bit.new.graph c.args.b.now c.in_ok-same.ensures.extends c.bits.invariant.b_stand;
  equal_stands = c.in_ok-same.ensures.stands.0;
  less_stands = c.in_ok-same.ensures.stands.1;
  value = λ v h.
      let old = c.bits.invariant.value v (c.in_ok-same.ensures.extends.kept v h) in
      let d : Edge = record { node = 0; negated = false } in
      let in_a : c.bits.i < length c.args.a.now = omega arith in
      let in_b : c.bits.i < length c.args.b.now = omega arith in
      let la : number_of v (take c.bits.i c.args.a.now) < 2 ^ c.bits.i = number-take_lt (edge_value v) c.args.a.now c.bits.i (omega arith) in
      let lb : number_of v (take c.bits.i c.args.b.now) < 2 ^ c.bits.i = number-take_lt (edge_value v) c.args.b.now c.bits.i (omega arith) in
      let x = edge_value v (get_or c.args.a.now c.bits.i d) in
      let y = edge_value v (get_or c.args.b.now c.bits.i d) in
      let a = number_of v (take c.bits.i c.args.a.now) in
      let b = number_of v (take c.bits.i c.args.b.now) in
      rw (number_more (edge_value v) c.args.a.now c.bits.i d in_a, number_more (edge_value v) c.args.b.now c.bits.i d in_b) (
        c.in_ok-same.ensures.equal v h ∙ ap (λ z. eqb (bit x) (bit y) && z) old.0 ∙ sym (eq_step (2 ^ c.bits.i) a b x y la lb),
        c.in_ok-same.ensures.less v h ∙ ap (λ z. cond (eqb (bit x) (bit y)) z y) old.1 ∙ sym (less_step (2 ^ c.bits.i) a b x y la lb),
      );
}

pub returns-clause-equal : goal.returns-clause-equal
returns-clause-equal c = λ v h.
    let all_a : take c.bits.i c.args.a.now ≡ c.args.a.now = take_all c.bits.i c.args.a.now (omega arith) in
    let all_b : take c.bits.i c.args.b.now ≡ c.args.b.now = take_all c.bits.i c.args.b.now (omega arith) in
    (c.bits.invariant.value v h).0 ∙ (λ k. eqb (number_of v (all_a k)) (number_of v (all_b k)))

pub returns-clause-less : goal.returns-clause-less
returns-clause-less c = λ v h.
    let all_a : take c.bits.i c.args.a.now ≡ c.args.a.now = take_all c.bits.i c.args.a.now (omega arith) in
    let all_b : take c.bits.i c.args.b.now ≡ c.args.b.now = take_all c.bits.i c.args.b.now (omega arith) in
    (c.bits.invariant.value v h).1 ∙ (λ k. ltb (number_of v (all_a k)) (number_of v (all_b k)))
