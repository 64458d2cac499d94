-- One bit more.
use Rattle.std.proofs.Common.{rules, arith, ◌^◌, ◌<◌, ◌&&◌, ◌∙◌, false, length, take, get_or, sym}
use Rattle.bit_graph.specs.declared.edge.Edge.{Edge}
use Rattle.bit_graph.specs.Meaning.{edge_value}
use Rattle.bit_arith.specs.Number.{number_of}
use Rattle.bit_arith.proofs.Numbers.{AllStand-extends, eq_step, number-take_lt, number_more}
use Rattle.bit_numbers.proofs.OfIntegers.{alike_bits}
use Rattle.bit_numbers.proofs.comparing.equal_bits.Goals as goal

pub bits-preserved : goal.bits-preserved
bits-preserved c = record {
  extends = search rules;
  a_stand =
      AllStand-extends c.alike.new.graph c.and.new.self c.args.a.now c.in_ok-both.ensures.extends
      (AllStand-extends c.bits.graph c.alike.new.graph c.args.a.now c.in_ok-same.ensures.extends c.bits.invariant.a_stand);
  b_stand =
      AllStand-extends c.alike.new.graph c.and.new.self c.args.b.now c.in_ok-both.ensures.extends
      (AllStand-extends c.bits.graph c.alike.new.graph c.args.b.now c.in_ok-same.ensures.extends c.bits.invariant.b_stand);
  stands = c.in_ok-both.ensures.stands;
  value = λ v h.
      let before = c.in_ok-both.ensures.extends.kept v h in
      let old = c.bits.invariant.value v (c.in_ok-same.ensures.extends.kept v before) in
      let d : Edge = record { node = 0; negated = false } in
      let in_a : c.bits.i < length c.args.a.now = omega arith in
      let in_b : c.bits.i < length c.args.b.now = omega arith in
      let la : number_of v (take c.bits.i c.args.a.now) < 2 ^ c.bits.i = number-take_lt (edge_value v) c.args.a.now c.bits.i (omega arith) in
      let lb : number_of v (take c.bits.i c.args.b.now) < 2 ^ c.bits.i = number-take_lt (edge_value v) c.args.b.now c.bits.i (omega arith) in
      let x = edge_value v (get_or c.args.a.now c.bits.i d) in
      let y = edge_value v (get_or c.args.b.now c.bits.i d) in
      let a = number_of v (take c.bits.i c.args.a.now) in
      let b = number_of v (take c.bits.i c.args.b.now) in
      rw (number_more (edge_value v) c.args.a.now c.bits.i d in_a, number_more (edge_value v) c.args.b.now c.bits.i d in_b)
      (c.in_ok-both.ensures.value v h ∙ (λ i. (c.in_ok-same.ensures.value v before ∙ alike_bits x y) i && old i) ∙ sym (eq_step (2 ^ c.bits.i) a b x y la lb));
}
