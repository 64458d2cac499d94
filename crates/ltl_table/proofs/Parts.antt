-- What each part of a formula's computation gives, on a word.
use Rattle.std.proofs.Common.{◌≡◌, ℕ, ◌+◌, ◌-◌, ◌*◌, ◌<◌, ◌≤◌, Bool, List, length, sym, subst, arith}
use Rattle.std.specs.Prelude.{◌↔◌, ◌%◌, ◌/◌, IsTrue, nat_lt, if◌then◌else◌}
use Rattle.std.proofs.Common.{inl, inr}
use Rattle.std.proofs.lemmas.Bool.{cases_lt}
use Rattle.std.proofs.lemmas.Bool.Decides.{nat_tests}
use Rattle.std.proofs.Math.Nat.{mul-le-mul_right}
use Rattle.ltl_meaning.specs.declared.node.UnaryOperator.{UnaryOperator}
use Rattle.ltl_meaning.specs.declared.node.BinaryOperator.{BinaryOperator}
use Rattle.ltl_meaning.specs.declared.word.Word.{Word}
use Rattle.ltl_meaning.specs.Ltl.{Ltl, past_height}
use Rattle.ltl_meaning.specs.Truth.{Repeats, Satisfies}
use Rattle.ltl_meaning.specs.Lasso.{on, period}
use Rattle.ltl_meaning.proofs.Period.{from_later, repeats_many, word_repeats}
use Rattle.ltl_table.specs.Columns.{at, Tells, unary_value, binary_value}
use Rattle.ltl_table.proofs.Meaning.{unary_tells, binary_tells}

module _ (w : Word) (h l n : ℕ) (low : l ≡ w.start + h * period w) (high : n ≡ l + period w) where
  inside : l < n
  inside = omega (arith, w.loops)

  repeat : (f : Ltl) → past_height f ≤ h → Repeats (n - l) l (Satisfies (on w) f)
  repeat f le =
      let e : period w ≡ n - l = omega arith in
      let m = mul-le-mul_right (period w) le in
      subst (λ p. Repeats p l (Satisfies (on w) f)) e (from_later (period w) (Satisfies (on w) f) _ l (omega (arith, m)) (word_repeats f w))

  -- an operator with one operand
  pub unary_part : (o : UnaryOperator) (f whole : Ltl) → whole ≡ Ltl.Unary o f → past_height whole ≤ h → (a c : List Bool) → Tells a n (Satisfies (on w) f) →
      length c ≡ length a → ((k : ℕ) → k < length a → at c k ≡ unary_value o a l k) → Tells c n (Satisfies (on w) whole)
  unary_part o f whole is le a c ta len each =
      let k = subst (λ g. past_height g ≤ h) is le in
      subst (λ g. Tells c n (Satisfies (on w) g)) (sym is)
      (unary_tells n l inside (Satisfies (on w) f) (repeat f (omega arith)) a ta o c len each)

  -- an operator with two operands
  pub binary_part : (o : BinaryOperator) (f g : Ltl) → past_height (Ltl.Binary o f g) ≤ h → (a b c : List Bool) →
      Tells a n (Satisfies (on w) f) → Tells b n (Satisfies (on w) g) →
      length c ≡ length b → ((k : ℕ) → k < length b → at c k ≡ binary_value o a b l k) → Tells c n (Satisfies (on w) (Ltl.Binary o f g))
  binary_part o f g le a b c ta tb len each =
      binary_tells n l inside (Satisfies (on w) f) (Satisfies (on w) g) (repeat f (omega arith)) (repeat g (omega arith)) a b ta tb o c len each

  -- what a column tells of any time, by its places
  pub place_tells : (f : Ltl) → past_height f ≤ h → (xs : List Bool) → Tells xs n (Satisfies (on w) f) → (i : ℕ) →
      IsTrue (at xs (if nat_lt i (length xs) then i else l + (i - l) % (length xs - l))) ↔ Satisfies (on w) f i
  place_tells f le xs t i =
      subst (λ m. IsTrue (at xs (if nat_lt i m then i else l + (i - l) % (m - l))) ↔ Satisfies (on w) f i) (sym t.0)
      (elim (cases_lt i n) [
        | inl b ↦
            let e : (if nat_lt i n then i else l + (i - l) % (n - l)) ≡ i = grind (arith, nat_tests) in
            subst (λ j. IsTrue (at xs j) ↔ Satisfies (on w) f i) (sym e) (t.1 i b)
        | inr b ↦
            let some : 0 < n - l = (let k = inside in omega arith) in
            let e : (if nat_lt i n then i else l + (i - l) % (n - l)) ≡ l + (i - l) % (n - l) = grind (arith, nat_tests) in
            let lt : l + (i - l) % (n - l) < n = omega arith in
            let back : l + (i - l) % (n - l) + (i - l) / (n - l) * (n - l) ≡ i = omega arith in
            let r = repeats_many (n - l) l (Satisfies (on w) f) (repeat f le) ((i - l) / (n - l)) (l + (i - l) % (n - l)) (omega arith) in
            let s = t.1 (l + (i - l) % (n - l)) lt in
            subst (λ j. IsTrue (at xs j) ↔ Satisfies (on w) f i) (sym e)
            (λ x. subst (Satisfies (on w) f) back (r.0 (s.0 x)), λ x. s.1 (r.1 (subst (Satisfies (on w) f) (sym back) x)))
      ])
