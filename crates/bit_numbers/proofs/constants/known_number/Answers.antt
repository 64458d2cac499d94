-- One bit more.
use Rattle.std.proofs.Common.{◌≡◌, ◌+◌, ◌-◌, ◌*◌, ◌^◌, ◌<◌, ◌≤◌, false, true, length, get_or, drop, sym, ap, subst, ◌∙◌, arith}
use Rattle.std.proofs.Math.Nat.{pow-suc}
use Rattle.bit_graph.specs.declared.edge.Edge.{Edge}
use Rattle.bit_arith.specs.Number.{bit, number_of}
use Rattle.bit_numbers.proofs.OfIntegers.{known_bound, known_more}
use Rattle.bit_numbers.proofs.constants.known_number.Goals.{then-b, else-b}
use Rattle.bit_numbers.proofs.constants.known_number.Goals as goal

pub bits-preserved : goal.bits-preserved
bits-preserved c =
    let bits = c.args.bits.now in
    let i = c.bits.i in
    let d : Edge = record { node = 0; negated = false } in
    let back : i - 1 + 1 ≡ i = omega arith in
    elim c.if-b.branch [
      | then-b w ↦ record {
        small = known_bound (length bits) i c.bits.value c.if-b.value (omega arith) (omega arith) (omega arith) c.bits.invariant.small;
        value = λ v h. known_more v bits (i - 1) d c.bits.value c.if-b.value (omega arith) (ap (λ k. number_of v (drop k bits)) back ∙ c.bits.invariant.value v h)
            (ap bit (c.in_ok-b.ensures.value v h ∙ w.if-b.true) ∙ sym w.value-is);
      }
      | else-b w ↦ record {
        small = known_bound (length bits) i c.bits.value c.if-b.value (omega arith) (omega arith) (omega arith) c.bits.invariant.small;
        value = λ v h. known_more v bits (i - 1) d c.bits.value c.if-b.value (omega arith) (ap (λ k. number_of v (drop k bits)) back ∙ c.bits.invariant.value v h)
            (ap bit (c.in_ok-b.ensures.value v h ∙ w.if-b.false) ∙ sym w.value-is);
      }
    ]
