-- A column computed from its operands' columns tells the operator's truth.
use Rattle.std.proofs.Common.{◌≡◌, ℕ, zero, suc, ◌+◌, ◌-◌, ◌*◌, ◌<◌, ◌≤◌, ◌⊎◌, inl, inr, Bool, true, false, not, ◌&&◌, ◌||◌, List, length, replicate, refl, sym, ap, ◌∙◌, subst, arith}
use Rattle.std.specs.Prelude.{◌↔◌, nat_lt, if◌then◌else◌, IsTrue}
use Rattle.std.specs.Bool.{Decides}
use Rattle.std.proofs.lemmas.Bool.{cases_Bool, cases_lt, or_cases, and_parts, and_cases, or_parts, and_from, or_left, or_right, and_left, and_right, or_from, not_from_false}
use Rattle.std.proofs.lemmas.Bool.Decides.{Decides-at, Decides-like, Decides-not, Decides-and, Decides-or, nat_tests}
use Rattle.std.proofs.lemmas.List.{get_or-replicate, length-replicate}
use Rattle.ltl_meaning.specs.declared.node.UnaryOperator.{UnaryOperator}
use Rattle.ltl_meaning.specs.declared.node.BinaryOperator.{BinaryOperator}
use Rattle.ltl_meaning.specs.Truth.{Moment, Repeats, Until, Releases, Yesterday, WeakYesterday, Since, Triggered, unary_truth, binary_truth}
use Rattle.ltl_meaning.proofs.Period.{repeats_many, constant_repeats}
use Rattle.ltl_meaning.proofs.Unfolding.{until_from, releases_from, since_starts, since_unfolds, triggered_starts, triggered_next, triggered_now, finally_until, globally_releases, once_since, historically_triggered}
use Rattle.ltl_meaning.proofs.Walk.{walk, walk_stays, walk_turns, walk_inside, walk_visits, walk_rounds, walk_same}
use Rattle.ltl_table.specs.declared.rules.Connective.{Connective}
use Rattle.ltl_table.specs.declared.rules.Step.{Step}
use Rattle.ltl_table.specs.Columns.{at, Tells, combine, back, forth, always, unary_value, binary_value}
use Rattle.ltl_table.proofs.Steps.{back_step, back_end, forth_step, forth_zero}

module _ (f g : List Bool) where
  until_mono : (d i : ℕ) → back Step.Until f g i d false ≡ true → back Step.Until f g i d true ≡ true
  unfolding back
  until_mono zero i h = refl
  until_mono (suc d) i h = elim (or_cases (at g i) _ h) [
    | inl t ↦ or_left (at g i) _ t
    | inr t ↦ let p = and_parts (at f i) _ t in or_right (at g i) _ (and_from (at f i) _ p.0 (until_mono d (i + 1) p.1))
  ]

  until_found : (d i : ℕ) → back Step.Until f g i d false ≡ true → (j : ℕ) × (i ≤ j) × (j < i + d) × (at g j ≡ true)
  unfolding back
  until_found zero i h = absurd cc
  until_found (suc d) i h = elim (or_cases (at g i) _ h) [
    | inl t ↦ (i, omega arith, omega arith, t)
    | inr t ↦ let w = until_found d (i + 1) (and_parts (at f i) _ t).1 in (w.0, omega (arith, w.1), omega (arith, w.2), w.3)
  ]

  releases_mono : (d i : ℕ) → back Step.Releases f g i d true ≡ false → back Step.Releases f g i d false ≡ false
  unfolding back
  releases_mono zero i h = refl
  releases_mono (suc d) i h = elim (and_cases (at g i) _ h) [
    | inl t ↦ and_left (at g i) _ t
    | inr t ↦ let p = or_parts (at f i) _ t in and_right (at g i) _ (or_from (at f i) _ p.0 (releases_mono d (i + 1) p.1))
  ]

  releases_found : (d i : ℕ) → back Step.Releases f g i d true ≡ false → (j : ℕ) × (i ≤ j) × (j < i + d) × (at g j ≡ false)
  unfolding back
  releases_found zero i h = absurd cc
  releases_found (suc d) i h = elim (and_cases (at g i) _ h) [
    | inl t ↦ (i, omega arith, omega arith, t)
    | inr t ↦ let w = releases_found d (i + 1) (or_parts (at f i) _ t).1 in (w.0, omega (arith, w.1), omega (arith, w.2), w.3)
  ]

module _ (n l : ℕ) (inside : l < n) where
  -- a column at any time
  abbrev pub round : List Bool → ℕ → Bool
  round xs i = at xs (walk n l i)

  module _ (P : Moment) (rp : Repeats (n - l) l P) (a : List Bool) (ta : Tells a n P) where
    pub all_times : (i : ℕ) → Decides (round a i) (P i)
    all_times i =
        let r = walk_rounds n l inside i in
        let t = ta.1 (walk n l i) (walk_inside n l inside i) in
        elim r.2 [
          | inl z ↦ let e : walk n l i ≡ i = sym (r.1 ∙ ap (λ c. walk n l i + c * (n - l)) z ∙ omega arith) in
              (λ h. subst P e (t.0 h), λ x. t.1 (subst P (sym e) x))
          | inr le ↦ let s = repeats_many (n - l) l P rp r.0 (walk n l i) le in
              (λ h. subst P (sym r.1) (s.0 (t.0 h)), λ x. t.1 (s.1 (subst P r.1 x)))
        ]

    pub next_told : (i : ℕ) → i < n → Decides (at a (if nat_lt (i + 1) n then i + 1 else l)) (P (i + 1))
    next_told i h =
        let e : at a (if nat_lt (i + 1) n then i + 1 else l) ≡ round a (i + 1) = elim (cases_lt (i + 1) n) [
          | inl b ↦ let s = walk_same n l inside (i + 1) b in ap (at a) (let t : (if nat_lt (i + 1) n then i + 1 else l) ≡ i + 1 = grind (arith, nat_tests) in t ∙ sym s)
          | inr b ↦ let w = walk_same n l inside i h in let s = walk_turns n l inside i (omega arith) in ap (at a) (let t : (if nat_lt (i + 1) n then i + 1 else l) ≡ l = grind (arith, nat_tests) in t ∙ sym s)
        ] in
        Decides-at _ _ e (all_times (i + 1))

    pub next_column : (c : List Bool) → length c ≡ n → ((k : ℕ) → k < n → at c k ≡ at a (if nat_lt (k + 1) n then k + 1 else l)) → Tells c n (λ i. P (i + 1))
    next_column c len each = (len, λ i h. Decides-at _ _ (each i h) (next_told i h))

  module _ (P Q : Moment) (a b : List Bool) (ta : (i : ℕ) → Decides (round a i) (P i)) (tb : (i : ℕ) → Decides (round b i) (Q i)) where
    until_times : (c : List Bool) → ((k : ℕ) → k < n → at c k ≡ back Step.Until a b k (n - k) (back Step.Until a b l (n - l) false)) → (i : ℕ) → Decides (round c i) (Until P Q i)
    until_times c each =
        let once : at c l ≡ back Step.Until a b l (n - l) false = each l inside ∙ elim (cases_Bool (back Step.Until a b l (n - l) false)) [
          | inl t ↦ ap (λ z. back Step.Until a b l (n - l) z) t ∙ until_mono a b (n - l) l t ∙ sym t
          | inr t ↦ ap (λ z. back Step.Until a b l (n - l) z) t
        ] in
        let row : (i : ℕ) → round c i ≡ (round b i || (round a i && round c (i + 1))) = λ i.
        let k = walk_inside n l inside i in
        each (walk n l i) k ∙ back_step Step.Until a b (walk n l i) n _ k ∙ ap (λ z. round b i || (round a i && z)) (elim (cases_lt (walk n l i + 1) n) [
          | inl lt ↦ sym (ap (at c) (walk_stays n l inside i lt) ∙ each (walk n l i + 1) lt)
          | inr ge ↦
              let e : walk n l i + 1 ≡ n = omega arith in
              ap (λ j. back Step.Until a b j (n - j) (back Step.Until a b l (n - l) false)) e ∙ back_end Step.Until a b n _ ∙ sym (ap (at c) (walk_turns n l inside i ge) ∙ once)
        ]) in
        let set : (j : ℕ) × (l ≤ j) × (j < n) × ((not (at c j) || at b j) ≡ true) = elim (cases_Bool (back Step.Until a b l (n - l) false)) [
          | inl t ↦ let w = until_found a b (n - l) l t in (w.0, w.1, omega (arith, w.2), or_right (not (at c w.0)) _ w.3)
          | inr t ↦ (l, omega arith, inside, or_left (not (at c l)) _ (not_from_false (at c l) (once ∙ t)))
        ] in
        until_from P Q (round c) (round a) (round b) ta tb row (λ i.
        let v = walk_visits n l inside i set.0 set.1 set.2 in
        (v.0, v.1, ap (λ k. not (at c k) || at b k) v.3 ∙ set.3))

    releases_times : (c : List Bool) → ((k : ℕ) → k < n → at c k ≡ back Step.Releases a b k (n - k) (back Step.Releases a b l (n - l) true)) → (i : ℕ) → Decides (round c i) (Releases P Q i)
    releases_times c each =
        let once : at c l ≡ back Step.Releases a b l (n - l) true = each l inside ∙ elim (cases_Bool (back Step.Releases a b l (n - l) true)) [
          | inl t ↦ ap (λ z. back Step.Releases a b l (n - l) z) t
          | inr t ↦ ap (λ z. back Step.Releases a b l (n - l) z) t ∙ releases_mono a b (n - l) l t ∙ sym t
        ] in
        let row : (i : ℕ) → round c i ≡ (round b i && (round a i || round c (i + 1))) = λ i.
        let k = walk_inside n l inside i in
        each (walk n l i) k ∙ back_step Step.Releases a b (walk n l i) n _ k ∙ ap (λ z. round b i && (round a i || z)) (elim (cases_lt (walk n l i + 1) n) [
          | inl lt ↦ sym (ap (at c) (walk_stays n l inside i lt) ∙ each (walk n l i + 1) lt)
          | inr ge ↦
              let e : walk n l i + 1 ≡ n = omega arith in
              ap (λ j. back Step.Releases a b j (n - j) (back Step.Releases a b l (n - l) true)) e ∙ back_end Step.Releases a b n _ ∙ sym (ap (at c) (walk_turns n l inside i ge) ∙ once)
        ]) in
        let set : (j : ℕ) × (l ≤ j) × (j < n) × ((at c j || not (at b j)) ≡ true) = elim (cases_Bool (back Step.Releases a b l (n - l) true)) [
          | inl t ↦ (l, omega arith, inside, or_left (at c l) _ (once ∙ t))
          | inr t ↦ let w = releases_found a b (n - l) l t in (w.0, w.1, omega (arith, w.2), or_right (at c w.0) _ (not_from_false (at b w.0) w.3))
        ] in
        releases_from P Q (round c) (round a) (round b) ta tb row (λ i.
        let v = walk_visits n l inside i set.0 set.1 set.2 in
        (v.0, v.1, ap (λ k. at c k || not (at b k)) v.3 ∙ set.3))

    -- what is told at each time is told of a column
    told_below : (c : List Bool) (R : Moment) → length c ≡ n → ((i : ℕ) → Decides (round c i) (R i)) → Tells c n R
    told_below c R len t = (len, λ i h. subst (λ k. Decides (at c k) (R i)) (walk_same n l inside i h) (t i))

    pub until_column : (c : List Bool) → length c ≡ n → ((k : ℕ) → k < n → at c k ≡ back Step.Until a b k (n - k) (back Step.Until a b l (n - l) false)) → Tells c n (Until P Q)
    until_column c len each = told_below c _ len (until_times c each)

    pub releases_column : (c : List Bool) → length c ≡ n → ((k : ℕ) → k < n → at c k ≡ back Step.Releases a b k (n - k) (back Step.Releases a b l (n - l) true)) → Tells c n (Releases P Q)
    releases_column c len each = told_below c _ len (releases_times c each)

module _ (n : ℕ) (P Q : Moment) (a b : List Bool) (ta : Tells a n P) (tb : Tells b n Q) where
  since_told : (i : ℕ) → i < n → Decides (forth Step.Until a b (i + 1)) (Since P Q i)
  since_told zero h =
      Decides-at _ (at b 0) (forth_step Step.Until a b 0 ∙ ap (λ z. at b 0 || (at a 0 && z)) (forth_zero Step.Until a b) ∙ nothing (at b 0) (at a 0))
      (Decides-like (at b 0) (since_starts P Q).1 (since_starts P Q).0 (tb.1 0 h))
    where
      nothing : (x y : Bool) → (x || (y && false)) ≡ x
      nothing true y = refl
      nothing false true = refl
      nothing false false = refl
  since_told (suc i) h =
      let e : suc i ≡ i + 1 = omega arith in
      subst (λ k. Decides (forth Step.Until a b (k + 1)) (Since P Q k)) (sym e)
      (Decides-at _ _ (forth_step Step.Until a b (i + 1))
      (Decides-like _ (since_unfolds P Q i).1 (since_unfolds P Q i).0
      (Decides-or _ _ (tb.1 (i + 1) (omega arith)) (Decides-and _ _ (ta.1 (i + 1) (omega arith)) (since_told i (omega arith))))))

  pub since_column : (c : List Bool) → length c ≡ n → ((k : ℕ) → k < n → at c k ≡ forth Step.Until a b (k + 1)) → Tells c n (Since P Q)
  since_column c len each = (len, λ i h. Decides-at _ _ (each i h) (since_told i h))

both_at : {P Q R S : Type 0} (x y c : Bool) → Decides x P → Decides y Q → (R → Q × ((P → ⊥) → S)) → (Q → P ⊎ S → R) → Decides c S → Decides (y && (x || c)) R
both_at x y c tp tq out into d = (
  λ h. let p = and_parts y (x || c) h in
      into (tq.0 p.0) (elim (or_cases x c p.1) [ inl t ↦ inl (tp.0 t) | inr t ↦ inr (d.0 t) ]),
  λ r. let q = out r in and_from y (x || c) (tq.1 q.0) (elim (cases_Bool x) [
    | inl t ↦ or_left x c t
    | inr t ↦ or_right x c (d.1 (q.1 (λ p. let w : x ≡ true = tp.1 p in cc)))
  ]),
)

module _ (n : ℕ) (P Q : Moment) (a b : List Bool) (ta : Tells a n P) (tb : Tells b n Q) where
  triggered_told : (i : ℕ) → i < n → Decides (forth Step.Releases a b (i + 1)) (Triggered P Q i)
  triggered_told zero h =
      Decides-at _ (at b 0) (forth_step Step.Releases a b 0 ∙ ap (λ z. at b 0 && (at a 0 || z)) (forth_zero Step.Releases a b) ∙ nothing (at b 0) (at a 0))
      (Decides-like (at b 0) (triggered_starts P Q).1 (triggered_starts P Q).0 (tb.1 0 h))
    where
      nothing : (x y : Bool) → (x && (y || true)) ≡ x
      nothing true true = refl
      nothing true false = refl
      nothing false y = refl
  triggered_told (suc i) h =
      let e : suc i ≡ i + 1 = omega arith in
      subst (λ k. Decides (forth Step.Releases a b (k + 1)) (Triggered P Q k)) (sym e)
      (Decides-at _ _ (forth_step Step.Releases a b (i + 1))
      (both_at (at a (i + 1)) (at b (i + 1)) (forth Step.Releases a b (i + 1)) (ta.1 (i + 1) (omega arith)) (tb.1 (i + 1) (omega arith))
      (triggered_next P Q i) (triggered_now P Q i) (triggered_told i (omega arith))))

  pub triggered_column : (c : List Bool) → length c ≡ n → ((k : ℕ) → k < n → at c k ≡ forth Step.Releases a b (k + 1)) → Tells c n (Triggered P Q)
  triggered_column c len each = (len, λ i h. Decides-at _ _ (each i h) (triggered_told i h))

-- what a connective gives is decided where its operands are
decides_combine_xor : {P Q : Type 0} (x y : Bool) → Decides x P → Decides y Q → Decides (combine Connective.Xor x y) ((P × (¬ Q)) ⊎ ((¬ P) × Q))
decides_combine_xor true true d e = (λ h. absurd cc, λ h. elim h [ inl a ↦ absurd (a.1 (e.0 refl)) | inr a ↦ absurd (a.0 (d.0 refl)) ])
decides_combine_xor true false d e = (λ h. inl (d.0 refl, λ q. let t : false ≡ true = e.1 q in cc), λ h. refl)
decides_combine_xor false true d e = (λ h. inr (λ p. (let t : false ≡ true = d.1 p in cc), e.0 refl), λ h. refl)
decides_combine_xor false false d e = (
  λ h. absurd cc,
  λ h. elim h [ inl a ↦ d.1 a.0 | inr a ↦ e.1 a.1 ],
)

decides_combine_iff : {P Q : Type 0} (x y : Bool) → Decides x P → Decides y Q → Decides (combine Connective.Iff x y) (P ↔ Q)
decides_combine_iff true true d e = (λ h. (λ p. e.0 refl, λ q. d.0 refl), λ h. refl)
decides_combine_iff true false d e = (λ h. absurd cc, λ h. e.1 (h.0 (d.0 refl)))
decides_combine_iff false true d e = (λ h. absurd cc, λ h. d.1 (h.1 (e.0 refl)))
decides_combine_iff false false d e = (
  λ h. (λ p. absurd (let t : false ≡ true = d.1 p in cc), λ q. absurd (let t : false ≡ true = e.1 q in cc)),
  λ h. refl,
)

decides_combine_implies : {P Q : Type 0} (x y : Bool) → Decides x P → Decides y Q → Decides (combine Connective.Implies x y) (P → Q)
decides_combine_implies true true d e = (λ h p. e.0 refl, λ h. refl)
decides_combine_implies true false d e = (λ h. absurd cc, λ h. e.1 (h (d.0 refl)))
decides_combine_implies false y d e = (λ h p. absurd (let t : false ≡ true = d.1 p in cc), λ h. refl)

after_first : (x y : Bool) (i : ℕ) → (if nat_lt 0 (suc i) then x else y) ≡ x
after_first x y i = grind (arith, nat_tests)

-- a column of one value
pub constant_column : (n : ℕ) (c : List Bool) (b : Bool) → c ≡ replicate n b → Tells c n (λ i. IsTrue b)
constant_column n c b is = (
  ap length is ∙ length-replicate n b,
  λ i h. let e : at c i ≡ b = ap (λ xs. at xs i) is ∙ get_or-replicate n i b false h in (λ t. sym e ∙ t, λ t. e ∙ t),
)

always_true : (n : ℕ) (a : List Bool) → length a ≡ n → Tells (always a true) n (λ i. Unit {0})
always_true n a len =
    let t = constant_column n (always a true) true (ap (λ m. replicate m true) len) in
    (t.0, λ i h. (λ x. tt, λ x. (t.1 i h).1 refl))

always_false : (n : ℕ) (a : List Bool) → length a ≡ n → Tells (always a false) n (λ i. ⊥)
always_false n a len =
    let t = constant_column n (always a false) false (ap (λ m. replicate m false) len) in
    (t.0, λ i h. (λ x. let e : false ≡ true = (t.1 i h).0 x in absurd cc, λ x. absurd x))

column_like : (n : ℕ) (P Q : Moment) (c : List Bool) → ((i : ℕ) → P i ↔ Q i) → Tells c n P → Tells c n Q
column_like n P Q c e t = (t.0, λ i h. Decides-like (at c i) (e i).0 (e i).1 (t.1 i h))

module _ (n l : ℕ) (inside : l < n) (P : Moment) (rp : Repeats (n - l) l P) (a : List Bool) (ta : Tells a n P) where
  -- what the place of a neighbouring time tells
  next_place : (i : ℕ) → i < n → Decides (at a (if nat_lt (i + 1) (length a) then i + 1 else l)) (P (i + 1))
  next_place i h = subst (λ m. Decides (at a (if nat_lt (i + 1) m then i + 1 else l)) (P (i + 1))) (sym ta.0) (next_told n l inside P rp a ta i h)

  yesterday_place : (i : ℕ) → i < n → Decides (if nat_lt 0 i then at a (i - 1) else false) (Yesterday P i)
  yesterday_place zero h = (λ t. absurd cc, λ x. absurd x)
  yesterday_place (suc i) h = let s : suc i - 1 ≡ i = omega arith in Decides-at _ _ (after_first (at a (suc i - 1)) _ i ∙ ap (at a) s) (ta.1 i (omega arith))

  weak_yesterday_place : (i : ℕ) → i < n → Decides (if nat_lt 0 i then at a (i - 1) else true) (WeakYesterday P i)
  weak_yesterday_place zero h = (λ t. tt, λ x. refl)
  weak_yesterday_place (suc i) h = let s : suc i - 1 ≡ i = omega arith in Decides-at _ _ (after_first (at a (suc i - 1)) _ i ∙ ap (at a) s) (ta.1 i (omega arith))

  yesterday_tells : (c : List Bool) → length c ≡ n → ((k : ℕ) → k < n → at c k ≡ (if nat_lt 0 k then at a (k - 1) else false)) → Tells c n (Yesterday P)
  yesterday_tells c len each = (len, λ i h. Decides-at _ _ (each i h) (yesterday_place i h))

  weak_yesterday_tells : (c : List Bool) → length c ≡ n → ((k : ℕ) → k < n → at c k ≡ (if nat_lt 0 k then at a (k - 1) else true)) → Tells c n (WeakYesterday P)
  weak_yesterday_tells c len each = (len, λ i h. Decides-at _ _ (each i h) (weak_yesterday_place i h))

  -- the same, by the operand's own length
  here : (o : UnaryOperator) (c : List Bool) → ((k : ℕ) → k < length a → at c k ≡ unary_value o a l k) → (k : ℕ) → k < n → at c k ≡ unary_value o a l k
  here o c each k h = each k (omega (arith, ta.0))

  -- an operator's column tells its truth
  pub unary_tells : (o : UnaryOperator) (c : List Bool) → length c ≡ length a → ((k : ℕ) → k < length a → at c k ≡ unary_value o a l k) →
      Tells c n (unary_truth o P)
  unary_tells UnaryOperator.Not c len each = (len ∙ ta.0, λ i h. Decides-at _ _ (here UnaryOperator.Not c each i h) (Decides-not _ (ta.1 i h)))
  unary_tells UnaryOperator.Next c len each =
      next_column n l inside P rp a ta c (len ∙ ta.0)
      (subst (λ m. (k : ℕ) → k < m → at c k ≡ at a (if nat_lt (k + 1) m then k + 1 else l)) ta.0 each)
  unary_tells UnaryOperator.Finally c len each =
      column_like n _ _ c (finally_until P)
      (until_column n l inside (λ i. Unit {0}) P (always a true) a
      (all_times n l inside _ (constant_repeats (n - l) (Unit {0}) l) (always a true) (always_true n a ta.0)) (all_times n l inside P rp a ta) c (len ∙ ta.0)
      (subst (λ m. (k : ℕ) → k < m → at c k ≡ back Step.Until (always a true) a k (m - k) (back Step.Until (always a true) a l (m - l) false)) ta.0 each))
  unary_tells UnaryOperator.Globally c len each =
      column_like n _ _ c (globally_releases P)
      (releases_column n l inside (λ i. ⊥) P (always a false) a
      (all_times n l inside _ (constant_repeats (n - l) ⊥ l) (always a false) (always_false n a ta.0)) (all_times n l inside P rp a ta) c (len ∙ ta.0)
      (subst (λ m. (k : ℕ) → k < m → at c k ≡ back Step.Releases (always a false) a k (m - k) (back Step.Releases (always a false) a l (m - l) true)) ta.0 each))
  unary_tells UnaryOperator.Yesterday c len each = yesterday_tells c (len ∙ ta.0) (here UnaryOperator.Yesterday c each)
  unary_tells UnaryOperator.WeakYesterday c len each = weak_yesterday_tells c (len ∙ ta.0) (here UnaryOperator.WeakYesterday c each)
  unary_tells UnaryOperator.Once c len each =
      column_like n _ _ c (once_since P)
      (since_column n (λ i. Unit {0}) P (always a true) a (always_true n a ta.0) ta c (len ∙ ta.0) (here UnaryOperator.Once c each))
  unary_tells UnaryOperator.Historically c len each =
      column_like n _ _ c (historically_triggered P)
      (triggered_column n (λ i. ⊥) P (always a false) a (always_false n a ta.0) ta c (len ∙ ta.0) (here UnaryOperator.Historically c each))
  unary_tells UnaryOperator.NowOrNext c len each = (
    len ∙ ta.0,
    λ i h. Decides-at _ _ (here UnaryOperator.NowOrNext c each i h) (Decides-or _ _ (ta.1 i h) (next_place i h)),
  )
  unary_tells UnaryOperator.NowAndNext c len each = (
    len ∙ ta.0,
    λ i h. Decides-at _ _ (here UnaryOperator.NowAndNext c each i h) (Decides-and _ _ (ta.1 i h) (next_place i h)),
  )
  unary_tells UnaryOperator.NowOrBefore c len each = (
    len ∙ ta.0,
    λ i h. Decides-at _ _ (here UnaryOperator.NowOrBefore c each i h) (Decides-or _ _ (ta.1 i h) (yesterday_place i h)),
  )
  unary_tells UnaryOperator.NowAndBefore c len each = (
    len ∙ ta.0,
    λ i h. Decides-at _ _ (here UnaryOperator.NowAndBefore c each i h) (Decides-and _ _ (ta.1 i h) (weak_yesterday_place i h)),
  )

module _ (n l : ℕ) (inside : l < n) (P Q : Moment) (rp : Repeats (n - l) l P) (rq : Repeats (n - l) l Q) (a b : List Bool) (ta : Tells a n P) (tb : Tells b n Q) where
  pub binary_tells : (o : BinaryOperator) (c : List Bool) → length c ≡ length b → ((k : ℕ) → k < length b → at c k ≡ binary_value o a b l k) →
      Tells c n (binary_truth o P Q)
  binary_tells BinaryOperator.And c len each = (len ∙ tb.0, λ i h. Decides-at _ _ (each i (omega (arith, tb.0))) (Decides-and _ _ (ta.1 i h) (tb.1 i h)))
  binary_tells BinaryOperator.Or c len each = (len ∙ tb.0, λ i h. Decides-at _ _ (each i (omega (arith, tb.0))) (Decides-or _ _ (ta.1 i h) (tb.1 i h)))
  binary_tells BinaryOperator.Xor c len each = (len ∙ tb.0, λ i h. Decides-at _ _ (each i (omega (arith, tb.0))) (decides_combine_xor _ _ (ta.1 i h) (tb.1 i h)))
  binary_tells BinaryOperator.Xnor c len each = (len ∙ tb.0, λ i h. Decides-at _ _ (each i (omega (arith, tb.0))) (decides_combine_iff _ _ (ta.1 i h) (tb.1 i h)))
  binary_tells BinaryOperator.Implies c len each = (len ∙ tb.0, λ i h. Decides-at _ _ (each i (omega (arith, tb.0))) (decides_combine_implies _ _ (ta.1 i h) (tb.1 i h)))
  binary_tells BinaryOperator.Iff c len each = (len ∙ tb.0, λ i h. Decides-at _ _ (each i (omega (arith, tb.0))) (decides_combine_iff _ _ (ta.1 i h) (tb.1 i h)))
  binary_tells BinaryOperator.Until c len each =
      until_column n l inside P Q a b (all_times n l inside P rp a ta) (all_times n l inside Q rq b tb) c (len ∙ tb.0)
      (subst (λ m. (k : ℕ) → k < m → at c k ≡ back Step.Until a b k (m - k) (back Step.Until a b l (m - l) false)) tb.0 each)
  binary_tells BinaryOperator.Releases c len each =
      releases_column n l inside P Q a b (all_times n l inside P rp a ta) (all_times n l inside Q rq b tb) c (len ∙ tb.0)
      (subst (λ m. (k : ℕ) → k < m → at c k ≡ back Step.Releases a b k (m - k) (back Step.Releases a b l (m - l) true)) tb.0 each)
  binary_tells BinaryOperator.Since c len each =
      since_column n P Q a b ta tb c (len ∙ tb.0) (λ k h. each k (omega (arith, tb.0)))
  binary_tells BinaryOperator.Triggered c len each =
      triggered_column n P Q a b ta tb c (len ∙ tb.0) (λ k h. each k (omega (arith, tb.0)))
