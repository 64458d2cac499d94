use Rattle.std.proofs.Common.{arith, rules, ◌/◌, Bool, eqb, inl, inr, List, ◌≡◌, ◌+◌, ◌-◌, ◌*◌, ◌^◌, ◌<◌, ◌%◌, ◌∷◌, ◌∙◌, ap, sym, length, cond, suc, false, get_or, drop, drop-cons, set, subst, ℕ, ◌++◌, [], length-append}
use Rattle.std.proofs.lemmas.List.{length-map, drop-set}
use Rattle.std.proofs.lemmas.List.Elements.{All-push, All-set}
use Rattle.std.proofs.lemmas.Bool.{cases_Bool, eqb-true, eqb-false}
use Rattle.std.proofs.Math.Nat.{mod-eq_of_lt}
use Rattle.std.proofs.Math.Seq.{drop-length}
use Rattle.std.proofs.Math.ListN.{drop_of_length-le, length-set}
use Rattle.bit_graph.specs.declared.edge.Edge.{Edge}
use Rattle.bit_graph.specs.Meaning.{edge_value, Stands}
use Rattle.bit_arith.specs.Number.{bit, number_of}
use Rattle.bit_arith.proofs.Numbers.{number-lt, number-push, number-drop_le, pow_more, AllStand-extends}
use Rattle.bit_arith.proofs.Horner.{AllStand-constant, number_of-zeros}
use Rattle.bit_arith.proofs.Digits.{digit_more, digit_full, quotient_is}
use Rattle.bit_arith.proofs.quotients.divide_numbers.Goals as goal

pub bits-init : goal.bits-init
bits-init c = record {
  extends = search rules;
  a_stand = c.requires.a_stand;
  divisor_stand = rw (c.in_ok-push.ensures.items, c.in_ok-divisor.ensures.items) (All-push (Stands c.args.graph.now) c.args.b.now c.constant-zero.result c.requires.b_stand c.constant-zero.ensures.stands);
  quotient_stand = rw c.in_ok-quotient.ensures (AllStand-constant c.args.graph.now c.constant-zero.result c.args.a.now c.constant-zero.ensures.stands);
  rest_stand = rw c.in_ok-rest.ensures (AllStand-constant c.args.graph.now c.constant-zero.result c.args.a.now c.constant-zero.ensures.stands);
  count = ap length c.in_ok-quotient.ensures ∙ length-map c.args.a.now _;
  rest_count = ap length c.in_ok-rest.ensures ∙ length-map c.args.a.now _;
  value = λ v h pos.
      let n : number_of v c.in_ok-rest.rest.items ≡ 0 = ap (number_of v) c.in_ok-rest.ensures ∙ number_of-zeros v c.constant-zero.result c.args.a.now (c.constant-zero.ensures.value v h) in
      let none : number_of v (drop (length c.args.a.now) c.args.a.now) ≡ 0 = ap (number_of v) (drop-length c.args.a.now) in
      let size : length c.in_ok-quotient.quotient.items ≡ length c.args.a.now = ap length c.in_ok-quotient.ensures ∙ length-map c.args.a.now _ in
      let q : number_of v (drop (length c.args.a.now) c.in_ok-quotient.quotient.items) ≡ 0 = ap (number_of v) (drop_of_length-le c.in_ok-quotient.quotient.items (omega (arith, size))) in
      let z : number_of v (drop (length c.args.a.now) c.in_ok-quotient.quotient.items) * number_of v c.args.b.now ≡ 0 = ap (λ m. m * number_of v c.args.b.now) q ∙ omega arith in
      (omega (arith, n, none, z), omega (arith, n, pos));
  by_zero = λ v h none_b.
      let n = length c.args.a.now in
      let n_rest : number_of v c.in_ok-rest.rest.items ≡ 0 = ap (number_of v) c.in_ok-rest.ensures ∙ number_of-zeros v c.constant-zero.result c.args.a.now (c.constant-zero.ensures.value v h) in
      let none : number_of v (drop n c.args.a.now) ≡ 0 = ap (number_of v) (drop-length c.args.a.now) in
      let size : length c.in_ok-quotient.quotient.items ≡ n = ap length c.in_ok-quotient.ensures ∙ length-map c.args.a.now _ in
      let q : number_of v (drop n c.in_ok-quotient.quotient.items) ≡ 0 = ap (number_of v) (drop_of_length-le c.in_ok-quotient.quotient.items (omega (arith, size))) in
      let place : n - n ≡ 0 = omega arith in
      (ap (λ m. m + 1) q ∙ sym (ap (λ m. 2 ^ m) place), n_rest ∙ sym none);
}

pub bits-preserved : goal.bits-preserved
bits-preserved c = record {
  extends = search rules;
  a_stand = AllStand-extends c.bits.graph c.digit.new.graph c.args.a.now c.in_ok-fits.ensures.extends c.bits.invariant.a_stand;
  divisor_stand = AllStand-extends c.bits.graph c.digit.new.graph c.push.new.self.items c.in_ok-fits.ensures.extends c.bits.invariant.divisor_stand;
  quotient_stand = All-set (Stands c.digit.new.graph) c.bits.quotient.items (c.bits.i - 1) c.in_ok-fits.fits c.in_ok-fits.ensures.stands.0
      (AllStand-extends c.bits.graph c.digit.new.graph c.bits.quotient.items c.in_ok-fits.ensures.extends c.bits.invariant.quotient_stand);
  rest_stand = c.in_ok-fits.ensures.stands.1;
  count = length-set c.bits.quotient.items (c.bits.i - 1) c.in_ok-fits.fits ∙ c.bits.invariant.count;
  rest_count = c.in_ok-fits.ensures.length ∙ ap length c.deref.ensures.value ∙ c.bits.invariant.rest_count;
  value = λ v h pos.
      let i = c.bits.i - 1 in
      let d : Edge = record { node = 0; negated = false } in
      let kept = c.in_ok-fits.ensures.extends.kept v h in
      let old = c.bits.invariant.value v kept pos in
      let zero : bit (edge_value v c.constant-zero.result) ≡ 0 = ap bit (c.constant-zero.ensures.value v (c.bits.invariant.extends.kept v kept)) in
      let divisor : number_of v c.deref-in-bits.result.now ≡ number_of v c.args.b.now =
      ap (number_of v) (c.deref-in-bits.ensures.value ∙ c.in_ok-push.ensures.items ∙ ap (λ l. l ++ c.constant-zero.result ∷ []) c.in_ok-divisor.ensures.items)
      ∙ number-push (edge_value v) c.args.b.now c.constant-zero.result ∙ ap (λ m. number_of v c.args.b.now + 2 ^ length c.args.b.now * m) zero ∙ omega arith in
      let rest : number_of v c.deref.result.now ≡ number_of v c.bits.rest.items = ap (number_of v) c.deref.ensures.value in
      let size : length c.args.b.now ≡ length c.deref.result.now = sym c.requires.lengths ∙ sym c.bits.invariant.rest_count ∙ sym (ap length c.deref.ensures.value) in
      let fits : number_of v c.deref-in-bits.result.now < 2 ^ length c.deref.result.now =
      (let P : ℕ → Type 0 = λ m. m < 2 ^ length c.deref.result.now in
      let Q : ℕ → Type 0 = λ m. number_of v c.args.b.now < 2 ^ m in
      subst P (sym divisor) (subst Q size (number-lt (edge_value v) c.args.b.now))) in
      let step = (c.in_ok-fits.ensures.value v h).divides (omega (arith, rest, divisor, old.1)) fits in
      let in_a : i < length c.args.a.now = omega arith in
      let in_q : i < length c.bits.quotient.items = omega (arith, c.bits.invariant.count) in
      let e : suc i ≡ c.bits.i = omega arith in
      let f : i + 1 ≡ c.bits.i = omega arith in
      let x = edge_value v (get_or c.args.a.now i d) in
      let list_a : number_of v (drop i c.args.a.now) ≡ bit x + 2 * number_of v (drop c.bits.i c.args.a.now) =
      ap (number_of v) (drop-cons c.args.a.now i d in_a ∙ ap (λ k. get_or c.args.a.now i d ∷ drop k c.args.a.now) e) in
      let list_q : number_of v (drop i (set c.bits.quotient.items i c.in_ok-fits.fits)) ≡ bit (edge_value v c.in_ok-fits.fits) + 2 * number_of v (drop c.bits.i c.bits.quotient.items) =
      ap (number_of v) (drop-set c.bits.quotient.items i c.in_ok-fits.fits in_q ∙ ap (λ k. c.in_ok-fits.fits ∷ drop k c.bits.quotient.items) f) in
      let b = number_of v c.args.b.now in
      let s : bit x + 2 * number_of v c.bits.rest.items ≡ bit (edge_value v c.in_ok-fits.fits) * b + number_of v c.in_ok-fits.next.items =
      ap (λ m. bit x + 2 * m) (sym rest) ∙ step.whole ∙ ap (λ m. bit (edge_value v c.in_ok-fits.fits) * m + number_of v c.in_ok-fits.next.items) divisor in
      let more = digit_more (bit x) (number_of v (drop c.bits.i c.args.a.now)) (number_of v (drop c.bits.i c.bits.quotient.items)) b (number_of v c.bits.rest.items) (number_of v c.in_ok-fits.next.items)
      (bit (edge_value v c.in_ok-fits.fits)) old.0 s in
      (list_a ∙ more ∙ ap (λ m. m * b + number_of v c.in_ok-fits.next.items) (sym list_q), omega (arith, step.below, divisor));
  by_zero = λ v h none_b.
      let n = length c.args.a.now in
      let i = c.bits.i - 1 in
      let d : Edge = record { node = 0; negated = false } in
      let kept = c.in_ok-fits.ensures.extends.kept v h in
      let old = c.bits.invariant.by_zero v kept none_b in
      let zero : bit (edge_value v c.constant-zero.result) ≡ 0 = ap bit (c.constant-zero.ensures.value v (c.bits.invariant.extends.kept v kept)) in
      let divisor : number_of v c.deref-in-bits.result.now ≡ 0 =
      ap (number_of v) (c.deref-in-bits.ensures.value ∙ c.in_ok-push.ensures.items ∙ ap (λ l. l ++ c.constant-zero.result ∷ []) c.in_ok-divisor.ensures.items)
      ∙ number-push (edge_value v) c.args.b.now c.constant-zero.result ∙ ap (λ m. number_of v c.args.b.now + 2 ^ length c.args.b.now * m) zero ∙ omega (arith, none_b) in
      let step = (c.in_ok-fits.ensures.value v h).by_zero divisor in
      let rest : number_of v c.deref.result.now ≡ number_of v (drop c.bits.i c.args.a.now) = ap (number_of v) c.deref.ensures.value ∙ old.1 in
      let size : length c.deref.result.now ≡ n = ap length c.deref.ensures.value ∙ c.bits.invariant.rest_count in
      let in_a : i < n = omega arith in
      let in_q : i < length c.bits.quotient.items = omega (arith, c.bits.invariant.count) in
      let e : suc i ≡ c.bits.i = omega arith in
      let f : i + 1 ≡ c.bits.i = omega arith in
      let x = edge_value v (get_or c.args.a.now i d) in
      let list_a : number_of v (drop i c.args.a.now) ≡ bit x + 2 * number_of v (drop c.bits.i c.args.a.now) =
      ap (number_of v) (drop-cons c.args.a.now i d in_a ∙ ap (λ k. get_or c.args.a.now i d ∷ drop k c.args.a.now) e) in
      let list_q : number_of v (drop i (set c.bits.quotient.items i c.in_ok-fits.fits)) ≡ bit (edge_value v c.in_ok-fits.fits) + 2 * number_of v (drop c.bits.i c.bits.quotient.items) =
      ap (number_of v) (drop-set c.bits.quotient.items i c.in_ok-fits.fits in_q ∙ ap (λ k. c.in_ok-fits.fits ∷ drop k c.bits.quotient.items) f) in
      let place : n - i ≡ (n - c.bits.i) + 1 = omega arith in
      let power : 2 ^ (n - i) ≡ 2 * 2 ^ (n - c.bits.i) = ap (λ m. 2 ^ m) place ∙ pow_more (n - c.bits.i) in
      let full = digit_full (2 ^ (n - c.bits.i)) (number_of v (drop c.bits.i c.bits.quotient.items)) old.0 in
      let small : number_of v (drop i c.args.a.now) < 2 ^ n = omega (arith, number-drop_le (edge_value v) i c.args.a.now, number-lt (edge_value v) c.args.a.now) in
      let next : number_of v c.in_ok-fits.next.items ≡ number_of v (drop i c.args.a.now) =
      step.1 ∙ (λ k. (bit x + 2 * rest k) % 2 ^ size k) ∙ ap (λ m. m % 2 ^ n) (sym list_a) ∙ mod-eq_of_lt small in
      (ap (λ m. m + 1) (list_q ∙ ap (λ m. m + 2 * number_of v (drop c.bits.i c.bits.quotient.items)) step.0) ∙ full ∙ sym power, next);
}

-- the whole division, where the divisor is not 0
divided : (v : ℕ → Bool) (a b q r : List Edge) (i : ℕ) → i ≡ 0 →
    (0 < number_of v b → (number_of v (drop i a) ≡ number_of v (drop i q) * number_of v b + number_of v r) × (number_of v r < number_of v b)) →
    0 < number_of v b → (number_of v q ≡ number_of v a / number_of v b) × (number_of v r ≡ number_of v a % number_of v b)
divided v a b q r i e h pos =
    let old = h pos in
    let whole : number_of v a ≡ number_of v q * number_of v b + number_of v r =
    ap (λ k. number_of v (drop k a)) (sym e) ∙ old.0 ∙ ap (λ k. number_of v (drop k q) * number_of v b + number_of v r) e in
    quotient_is (number_of v a) (number_of v q) (number_of v b) (number_of v r) whole old.1

pub returns-clause-quotient : goal.returns-clause-quotient
returns-clause-quotient c = λ v h.
    let n = length c.args.a.now in
    let a = number_of v c.args.a.now in
    let b = number_of v c.args.b.now in
    let e : c.bits.i ≡ 0 = omega arith in
    elim (cases_Bool (eqb b 0)) [
      | inl z ↦
          let old = c.bits.invariant.by_zero v h (eqb-true b 0 z) in
          let q : number_of v c.bits.quotient.items + 1 ≡ 2 ^ n = ap (λ k. number_of v (drop k c.bits.quotient.items) + 1) (sym e) ∙ old.0 ∙ ap (λ k. 2 ^ (n - k)) e ∙ (let f : n - 0 ≡ n = omega arith in ap (λ k. 2 ^ k) f) in
          let less : number_of v c.bits.quotient.items ≡ 2 ^ n - 1 = omega arith in
          less ∙ sym (ap (λ c. cond c (2 ^ n - 1) (a / b)) z)
      | inr z ↦
          let pos : 0 < b = omega (arith, eqb-false b 0 z) in
          (divided v c.args.a.now c.args.b.now c.bits.quotient.items c.bits.rest.items c.bits.i e (c.bits.invariant.value v h) pos).0
          ∙ sym (ap (λ c. cond c (2 ^ n - 1) (a / b)) z)
    ]

pub returns-clause-remainder : goal.returns-clause-remainder
returns-clause-remainder c = λ v h.
    let a = number_of v c.args.a.now in
    let b = number_of v c.args.b.now in
    let e : c.bits.i ≡ 0 = omega arith in
    elim (cases_Bool (eqb b 0)) [
      | inl z ↦
          (c.bits.invariant.by_zero v h (eqb-true b 0 z)).1 ∙ ap (λ k. number_of v (drop k c.args.a.now)) e ∙ sym (ap (λ c. cond c a (a % b)) z)
      | inr z ↦
          let pos : 0 < b = omega (arith, eqb-false b 0 z) in
          (divided v c.args.a.now c.args.b.now c.bits.quotient.items c.bits.rest.items c.bits.i e (c.bits.invariant.value v h) pos).1
          ∙ sym (ap (λ c. cond c a (a % b)) z)
    ]

pub digit-requires-clause-lengths : goal.digit-requires-clause-lengths
digit-requires-clause-lengths c =
    let rest : length c.deref.result.now ≡ length c.args.b.now = ap length c.deref.ensures.value ∙ c.bits.invariant.rest_count ∙ c.requires.lengths in
    let divisor : length c.deref-in-bits.result.now ≡ length c.args.b.now + 1 =
    ap length (c.deref-in-bits.ensures.value ∙ c.in_ok-push.ensures.items ∙ ap (λ l. l ++ c.constant-zero.result ∷ []) c.in_ok-divisor.ensures.items)
    ∙ length-append c.args.b.now (c.constant-zero.result ∷ []) in
    ap (λ n. n + 1) rest ∙ sym divisor

pub digit-requires-clause-rest_stand : goal.digit-requires-clause-rest_stand
digit-requires-clause-rest_stand c = rw c.deref.ensures.value c.bits.invariant.rest_stand

pub digit-requires-clause-divisor_stand : goal.digit-requires-clause-divisor_stand
digit-requires-clause-divisor_stand c = rw c.deref-in-bits.ensures.value c.bits.invariant.divisor_stand
