-- Bits that meet the rules, with each set again and again, are the truth.
use Rattle.std.proofs.Common.{◌≡◌, ℕ, zero, suc, ◌+◌, ◌⊎◌, inl, inr, Bool, true, false, not, ◌&&◌, ◌||◌, List, [], ◌∷◌, ◌++◌, refl, sym, ap, ◌∙◌, arith}
use Rattle.std.specs.Prelude.{◌↔◌}
use Rattle.std.specs.Bool.{Decides}
use Rattle.std.proofs.lemmas.Bool.Decides.{Decides-at, Decides-like, Decides-not, Decides-and, Decides-or}
use Rattle.ltl_meaning.specs.declared.node.UnaryOperator.{UnaryOperator}
use Rattle.ltl_meaning.specs.declared.node.BinaryOperator.{BinaryOperator}
use Rattle.ltl_meaning.specs.Ltl.{Ltl}
use Rattle.ltl_meaning.specs.Truth.{Moment, NowOrBefore, NowAndBefore, unary_truth, binary_truth, Satisfies}
use Rattle.ltl_meaning.proofs.Unfolding.{Tells, Often, until_from, releases_from, since_from, triggered_from, finally_from, globally_from, once_from, historically_from, yesterday_from, weak_yesterday_from}
use Rattle.ltl_monitor.specs.Monitor.{Side, same, nodes, unary_now, binary_now, truth, unary_row, binary_row, rows, unary_start, binary_start, starts, Set, unary_sets, binary_sets, sets, Each}

pub Decides-same : {P Q : Type 0} (x y : Bool) → Decides x P → Decides y Q → Decides (same x y) (P ↔ Q)
Decides-same true true d e = (λ h. (λ p. e.0 refl, λ q. d.0 refl), λ h. refl)
Decides-same true false d e = (λ h. absurd cc, λ h. e.1 (h.0 (d.0 refl)))
Decides-same false true d e = (λ h. absurd cc, λ h. d.1 (h.1 (e.0 refl)))
Decides-same false false d e = (λ h. (λ p. absurd (let t : false ≡ true = d.1 p in cc), λ q. absurd (let t : false ≡ true = e.1 q in cc)), λ h. refl)

pub Decides-xor : {P Q : Type 0} (x y : Bool) → Decides x P → Decides y Q → Decides (not (same x y)) ((P × (¬ Q)) ⊎ ((¬ P) × Q))
Decides-xor true true d e = (λ h. absurd cc, λ h. elim h [ inl a ↦ absurd (a.1 (e.0 refl)) | inr a ↦ absurd (a.0 (d.0 refl)) ])
Decides-xor true false d e = (λ h. inl (d.0 refl, λ q. let t : false ≡ true = e.1 q in cc), λ h. refl)
Decides-xor false true d e = (λ h. inr (λ p. (let t : false ≡ true = d.1 p in cc), e.0 refl), λ h. refl)
Decides-xor false false d e = (λ h. absurd cc, λ h. elim h [ inl a ↦ d.1 a.0 | inr a ↦ e.1 a.1 ])

pub Decides-implies : {P Q : Type 0} (x y : Bool) → Decides x P → Decides y Q → Decides (not x || y) (P → Q)
Decides-implies true true d e = (λ h p. e.0 refl, λ h. refl)
Decides-implies true false d e = (λ h. absurd cc, λ h. e.1 (h (d.0 refl)))
Decides-implies false y d e = (λ h p. absurd (let t : false ≡ true = d.1 p in cc), λ h. refl)

pub each_left : {X : Type 0} (P : X → Type 0) (xs ys : List X) → Each P (xs ++ ys) → Each P xs
each_left P [] ys h = tt
each_left P (x ∷ xs) ys h = (h.0, each_left P xs ys h.1)

pub each_right : {X : Type 0} (P : X → Type 0) (xs ys : List X) → Each P (xs ++ ys) → Each P ys
each_right P [] ys h = h
each_right P (x ∷ xs) ys h = each_right P xs ys h.1

pub each_join : {X : Type 0} (P : X → Type 0) (xs ys : List X) → Each P xs → Each P ys → Each P (xs ++ ys)
each_join P [] ys a b = b
each_join P (x ∷ xs) ys a b = (a.0, each_join P xs ys a.1 b)

-- an operator that looks at the time before, too
module _ (P : Moment) (b x : ℕ → Bool) (tp : Tells x P) where
  or_before_from : b 0 ≡ x 0 → ((i : ℕ) → b (i + 1) ≡ (x (i + 1) || x i)) → Tells b (NowOrBefore P)
  or_before_from start row zero = Decides-at _ _ start (Decides-like (x 0) inl (λ h. elim h [ inl y ↦ y | inr y ↦ absurd y ]) (tp 0))
  or_before_from start row (suc i) =
      let e : suc i ≡ i + 1 = omega arith in
      Decides-at _ _ (ap b e ∙ row i ∙ ap (λ n. x n || x i) (sym e)) (Decides-or _ _ (tp (suc i)) (tp i))

  and_before_from : b 0 ≡ x 0 → ((i : ℕ) → b (i + 1) ≡ (x (i + 1) && x i)) → Tells b (NowAndBefore P)
  and_before_from start row zero = Decides-at _ _ start (Decides-like (x 0) (λ h. (h, tt)) (λ h. h.0) (tp 0))
  and_before_from start row (suc i) =
      let e : suc i ≡ i + 1 = omega arith in
      Decides-at _ _ (ap b e ∙ row i ∙ ap (λ n. x n && x i) (sym e)) (Decides-and _ _ (tp (suc i)) (tp i))

module _ (s : ℕ → Side) where
  -- a set holds again and again
  abbrev pub Again : Set → Type 0
  Again z = Often (λ j. z (s j))

  -- one operator, over its own bit and its operand's truth
  unary_from : (o : UnaryOperator) (P : Moment) (bit p : Set) → Tells (λ i. p (s i)) P →
      ((i : ℕ) → unary_row o (bit (s i)) (bit (s (i + 1))) (p (s i)) (p (s (i + 1)))) → unary_start o (bit (s 0)) (p (s 0)) →
      Each Again (unary_sets o bit p) → Tells (λ i. unary_now o (bit (s i)) (p (s i))) (unary_truth o P)
  unary_from UnaryOperator.Not P bit p tp row st z = λ i. Decides-not _ (tp i)
  unary_from UnaryOperator.Next P bit p tp row st z = λ i. Decides-at _ _ (row i) (tp (i + 1))
  unary_from UnaryOperator.Finally P bit p tp row st z = finally_from P (λ i. bit (s i)) (λ i. p (s i)) tp row z.0
  unary_from UnaryOperator.Globally P bit p tp row st z = globally_from P (λ i. bit (s i)) (λ i. p (s i)) tp row z.0
  unary_from UnaryOperator.Yesterday P bit p tp row st z = yesterday_from P (λ i. bit (s i)) (λ i. p (s i)) tp st row
  unary_from UnaryOperator.WeakYesterday P bit p tp row st z = weak_yesterday_from P (λ i. bit (s i)) (λ i. p (s i)) tp st row
  unary_from UnaryOperator.Once P bit p tp row st z = once_from P (λ i. bit (s i)) (λ i. p (s i)) tp st row
  unary_from UnaryOperator.Historically P bit p tp row st z = historically_from P (λ i. bit (s i)) (λ i. p (s i)) tp st row
  unary_from UnaryOperator.NowOrNext P bit p tp row st z = λ i. Decides-at _ _ (row i) (Decides-or _ _ (tp i) (tp (i + 1)))
  unary_from UnaryOperator.NowAndNext P bit p tp row st z = λ i. Decides-at _ _ (row i) (Decides-and _ _ (tp i) (tp (i + 1)))
  unary_from UnaryOperator.NowOrBefore P bit p tp row st z = or_before_from P (λ i. bit (s i)) (λ i. p (s i)) tp st row
  unary_from UnaryOperator.NowAndBefore P bit p tp row st z = and_before_from P (λ i. bit (s i)) (λ i. p (s i)) tp st row

  binary_from : (o : BinaryOperator) (P Q : Moment) (bit p q : Set) → Tells (λ i. p (s i)) P → Tells (λ i. q (s i)) Q →
      ((i : ℕ) → binary_row o (bit (s i)) (bit (s (i + 1))) (p (s i)) (q (s i)) (p (s (i + 1))) (q (s (i + 1)))) → binary_start o (bit (s 0)) (q (s 0)) →
      Each Again (binary_sets o bit q) → Tells (λ i. binary_now o (bit (s i)) (p (s i)) (q (s i))) (binary_truth o P Q)
  binary_from BinaryOperator.And P Q bit p q tp tq row st z = λ i. Decides-and _ _ (tp i) (tq i)
  binary_from BinaryOperator.Or P Q bit p q tp tq row st z = λ i. Decides-or _ _ (tp i) (tq i)
  binary_from BinaryOperator.Xor P Q bit p q tp tq row st z = λ i. Decides-xor _ _ (tp i) (tq i)
  binary_from BinaryOperator.Xnor P Q bit p q tp tq row st z = λ i. Decides-same _ _ (tp i) (tq i)
  binary_from BinaryOperator.Implies P Q bit p q tp tq row st z = λ i. Decides-implies _ _ (tp i) (tq i)
  binary_from BinaryOperator.Iff P Q bit p q tp tq row st z = λ i. Decides-same _ _ (tp i) (tq i)
  binary_from BinaryOperator.Until P Q bit p q tp tq row st z = until_from P Q (λ i. bit (s i)) (λ i. p (s i)) (λ i. q (s i)) tp tq row z.0
  binary_from BinaryOperator.Releases P Q bit p q tp tq row st z = releases_from P Q (λ i. bit (s i)) (λ i. p (s i)) (λ i. q (s i)) tp tq row z.0
  binary_from BinaryOperator.Since P Q bit p q tp tq row st z = since_from P Q (λ i. bit (s i)) (λ i. p (s i)) (λ i. q (s i)) tp tq st row
  binary_from BinaryOperator.Triggered P Q bit p q tp tq row st z = triggered_from P Q (λ i. bit (s i)) (λ i. p (s i)) (λ i. q (s i)) tp tq st row

  module _ (m : ℕ → Moment) (atoms : (a i : ℕ) → Decides ((s i).atom a) (m a i)) where
    -- bits that meet the rules, with each set again and again, are the truth
    pub from_bits : (f : Ltl) (n : ℕ) → ((i : ℕ) → rows f n (s i) (s (i + 1))) → starts f n (s 0) → Each Again (sets f n) →
        Tells (λ i. truth f n (s i)) (Satisfies m f)
    from_bits (Ltl.Constant b) n row st z = λ i. (λ h. h, λ h. h)
    from_bits (Ltl.Atom a) n row st z = atoms a
    from_bits (Ltl.Unary o f) n row st z =
        unary_from o (Satisfies m f) (λ t. t.bit (n + nodes f)) (truth f n)
        (from_bits f n (λ j. (row j).1) st.1 (each_left _ (sets f n) _ z))
        (λ j. (row j).0) st.0 (each_right _ (sets f n) _ z)
    from_bits (Ltl.Binary o f g) n row st z =
        let rest = each_right Again (sets f n) _ z in
        binary_from o (Satisfies m f) (Satisfies m g) (λ t. t.bit (n + nodes f + nodes g)) (truth f n) (truth g (n + nodes f))
        (from_bits f n (λ j. (row j).1) st.1 (each_left _ (sets f n) _ z))
        (from_bits g (n + nodes f) (λ j. (row j).2) st.2 (each_left _ (sets g (n + nodes f)) _ rest))
        (λ j. (row j).0) st.0 (each_right _ (sets g (n + nodes f)) _ rest)
