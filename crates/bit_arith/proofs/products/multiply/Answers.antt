use Rattle.std.proofs.Common.{arith, rules, ◌≡◌, ◌*◌, ◌^◌, ◌<◌, ◌%◌, ◌∷◌, ◌∙◌, ap, sym, length, drop, ◌-◌, suc, false, get_or, drop-cons}
use Rattle.bit_graph.specs.declared.edge.Edge.{Edge}
use Rattle.std.proofs.lemmas.List.{length-map}
use Rattle.std.proofs.Math.Seq.{drop-length}
use Rattle.std.proofs.Math.Nat.{zero-mod}
use Rattle.bit_graph.specs.Meaning.{edge_value}
use Rattle.bit_arith.specs.Number.{bit, number_of}
use Rattle.bit_arith.proofs.Numbers.{AllStand-extends}
use Rattle.bit_arith.proofs.Horner.{AllStand-constant, number_of-zeros, horner}
use Rattle.bit_arith.proofs.products.multiply.Goals as goal

pub bits-init : goal.bits-init
bits-init c = record {
  extends = search rules;
  a_stand = c.requires.a_stand;
  b_stand = c.requires.b_stand;
  product_stand = rw c.in_ok-product.ensures (AllStand-constant c.args.graph.now c.constant-zero.result c.args.a.now c.constant-zero.ensures.stands);
  zero_stands = c.constant-zero.ensures.stands;
  zero_is = c.constant-zero.ensures.value;
  count = ap length c.in_ok-product.ensures ∙ length-map c.args.a.now _;
  value = λ v h.
      let n : number_of v c.in_ok-product.product.items ≡ 0 = ap (number_of v) c.in_ok-product.ensures ∙ number_of-zeros v c.constant-zero.result c.args.a.now (c.constant-zero.ensures.value v h) in
      let d : number_of v (drop (length c.args.b.now) c.args.b.now) ≡ 0 = ap (number_of v) (drop-length c.args.b.now) in
      let z : number_of v c.args.a.now * number_of v (drop (length c.args.b.now) c.args.b.now) ≡ 0 = ap (λ m. number_of v c.args.a.now * m) d ∙ omega arith in
      n ∙ sym (ap (λ m. m % 2 ^ length c.args.a.now) z ∙ zero-mod (2 ^ length c.args.a.now));
}

pub bits-preserved : goal.bits-preserved
bits-preserved c = record {
  extends = search rules;
  a_stand = AllStand-extends c.bits.graph c.step.new.graph c.args.a.now c.in_ok-next.ensures.extends c.bits.invariant.a_stand;
  b_stand = AllStand-extends c.bits.graph c.step.new.graph c.args.b.now c.in_ok-next.ensures.extends c.bits.invariant.b_stand;
  product_stand = c.in_ok-next.ensures.stands;
  zero_stands = search rules;
  zero_is = λ v h. c.bits.invariant.zero_is v (c.in_ok-next.ensures.extends.kept v h);
  count = c.in_ok-next.ensures.length;
  value = λ v h.
      let i = c.bits.i - 1 in
      let d : Edge = record { node = 0; negated = false } in
      let old = c.bits.invariant.value v (c.in_ok-next.ensures.extends.kept v h) in
      let in_b : i < length c.args.b.now = omega arith in
      let e : suc i ≡ c.bits.i = omega arith in
      let list : drop i c.args.b.now ≡ get_or c.args.b.now i d ∷ drop c.bits.i c.args.b.now = drop-cons c.args.b.now i d in_b ∙ ap (λ k. get_or c.args.b.now i d ∷ drop k c.args.b.now) e in
      let p : number_of v c.deref.result.now ≡ number_of v c.bits.product.items = ap (number_of v) c.deref.ensures.value in
      c.in_ok-next.ensures.value v h
      ∙ horner (2 ^ length c.args.a.now) (number_of v c.args.a.now) (number_of v (drop c.bits.i c.args.b.now)) (bit (edge_value v (get_or c.args.b.now i d))) (number_of v c.deref.result.now) (p ∙ old)
      ∙ sym (ap (λ l. (number_of v c.args.a.now * number_of v l) % 2 ^ length c.args.a.now) list);
}

pub step-requires-clause-product_stand : goal.step-requires-clause-product_stand
step-requires-clause-product_stand c = rw c.deref.ensures.value c.bits.invariant.product_stand

pub step-requires-clause-lengths : goal.step-requires-clause-lengths
step-requires-clause-lengths c = ap length c.deref.ensures.value ∙ c.bits.invariant.count

pub step-requires-clause-zeros : goal.step-requires-clause-zeros
step-requires-clause-zeros c = c.deref-in-bits.ensures.value ∙ c.in_ok-zeros.ensures

pub returns-clause-value : goal.returns-clause-value
returns-clause-value c = λ v h.
    let none : c.bits.i ≡ 0 = omega arith in
    c.bits.invariant.value v h
    ∙ ap (λ k. (number_of v c.args.a.now * number_of v (drop k c.args.b.now)) % 2 ^ length c.args.a.now) none
