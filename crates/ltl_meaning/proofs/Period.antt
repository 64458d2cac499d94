-- On a loop truth repeats with each pass: after one pass more for each level of past operators.
use Rattle.std.proofs.Common.{◌≡◌, ℕ, zero, suc, ◌+◌, ◌-◌, ◌*◌, ◌%◌, ◌<◌, ◌≤◌, ◌⊎◌, inl, inr, max, [], length, sym, ap, ◌∙◌, subst, arith}
use Rattle.std.specs.Prelude.{◌↔◌, IsTrue, false, slice_index_or}
use Rattle.std.proofs.lemmas.Bool.{cases_lt}
use Rattle.std.proofs.lemmas.Bool.Decides.{nat_tests}
use Rattle.std.proofs.Math.Nat.{mod-eq_of_lt, add-mod_right, mul-le-mul_right}
use Rattle.ltl_meaning.specs.declared.node.UnaryOperator.{UnaryOperator}
use Rattle.ltl_meaning.specs.declared.node.BinaryOperator.{BinaryOperator}
use Rattle.ltl_meaning.specs.declared.word.Word.{Word}
use Rattle.ltl_meaning.specs.Ltl.{Ltl, past_unary, past_binary, past_height}
use Rattle.ltl_meaning.specs.Truth.{Moment, Repeats, Finally, Globally, Until, Releases, Yesterday, WeakYesterday, Once, Historically, Since, Triggered, unary_truth, binary_truth, Satisfies}
use Rattle.ltl_meaning.specs.Lasso.{on, period, place}

module _ (p : ℕ) where
  pub from_later : (P : Moment) (m n : ℕ) → m ≤ n → Repeats p m P → Repeats p n P
  from_later P m n le r = λ i h. r i (omega arith)

  module _ (P : Moment) (m : ℕ) (r : Repeats p m P) where
    pub up : (k : ℕ) → m + p ≤ k → P (k - p) → P k
    up k h x = let e : k - p + p ≡ k = omega arith in subst P e ((r (k - p) (omega arith)).0 x)

    pub down : (k : ℕ) → m + p ≤ k → P k → P (k - p)
    down k h x = let e : k ≡ k - p + p = omega arith in (r (k - p) (omega arith)).1 (subst P e x)

    not_repeats : Repeats p m (λ i. ¬ P i)
    not_repeats = λ i h. (λ n x. n ((r i h).1 x), λ n x. n ((r i h).0 x))

    next_repeats : Repeats p m (λ i. P (i + 1))
    next_repeats = λ i h.
        let e : i + 1 + p ≡ i + p + 1 = omega arith in
        let s = r (i + 1) (omega arith) in
        (λ x. subst P e (s.0 x), λ x. s.1 (subst P (sym e) x))

    finally_repeats : Repeats p m (Finally P)
    finally_repeats = λ i h. (
      λ a. (a.0 + p, omega (arith, a.1), (r a.0 (omega (arith, a.1))).0 a.2),
      λ a. (a.0 - p, omega (arith, a.1), down a.0 (omega (arith, a.1)) a.2),
    )

    globally_repeats : Repeats p m (Globally P)
    globally_repeats = λ i h. (
      λ a. λ j le. up j (omega arith) (a (j - p) (omega arith)),
      λ a. λ j le. (r j (omega arith)).1 (a (j + p) (omega arith)),
    )

    once_repeats : Repeats p (m + p) (Once P)
    once_repeats = λ i h. (
      λ a. elim (cases_lt a.0 m) [ inl b ↦ (a.0, omega (arith, a.1), a.2) | inr b ↦ (a.0 + p, omega (arith, a.1), (r a.0 b).0 a.2) ],
      λ a. elim (cases_lt a.0 (m + p)) [ inl b ↦ (a.0, omega (arith, a.1), a.2) | inr b ↦ (a.0 - p, omega (arith, a.1), down a.0 b a.2) ],
    )

    historically_repeats : Repeats p (m + p) (Historically P)
    historically_repeats = λ i h. (
      λ a. λ j le. elim (cases_lt j (m + p)) [ inl b ↦ a j (omega arith) | inr b ↦ up j b (a (j - p) (omega arith)) ],
      λ a. λ j le. a j (omega arith),
    )

    yesterday_repeats : 0 < p → Repeats p (m + p) (Yesterday P)
    yesterday_repeats some = λ i h.
        let e : i ≡ suc (i - 1) = omega arith in
        let f : suc (i - 1) + p ≡ suc (i - 1 + p) = omega arith in
        rw e (rw f (r (i - 1) (omega arith)))

    weak_yesterday_repeats : 0 < p → Repeats p (m + p) (WeakYesterday P)
    weak_yesterday_repeats some = λ i h.
        let e : i ≡ suc (i - 1) = omega arith in
        let f : suc (i - 1) + p ≡ suc (i - 1 + p) = omega arith in
        rw e (rw f (r (i - 1) (omega arith)))

  module _ (P Q : Moment) (m : ℕ) (r : Repeats p m P) (s : Repeats p m Q) where
    and_repeats : Repeats p m (λ i. P i × Q i)
    and_repeats = λ i h. (λ a. ((r i h).0 a.0, (s i h).0 a.1), λ a. ((r i h).1 a.0, (s i h).1 a.1))

    or_repeats : Repeats p m (λ i. P i ⊎ Q i)
    or_repeats = λ i h. (
      λ a. elim a [ inl x ↦ inl ((r i h).0 x) | inr x ↦ inr ((s i h).0 x) ],
      λ a. elim a [ inl x ↦ inl ((r i h).1 x) | inr x ↦ inr ((s i h).1 x) ],
    )

    xor_repeats : Repeats p m (λ i. (P i × (¬ Q i)) ⊎ ((¬ P i) × Q i))
    xor_repeats = λ i h. (
      λ a. elim a [
        | inl x ↦ inl ((r i h).0 x.0, λ y. x.1 ((s i h).1 y))
        | inr x ↦ inr (λ y. x.0 ((r i h).1 y), (s i h).0 x.1)
      ],
      λ a. elim a [
        | inl x ↦ inl ((r i h).1 x.0, λ y. x.1 ((s i h).0 y))
        | inr x ↦ inr (λ y. x.0 ((r i h).0 y), (s i h).1 x.1)
      ],
    )

    implies_repeats : Repeats p m (λ i. P i → Q i)
    implies_repeats = λ i h. (λ a x. (s i h).0 (a ((r i h).1 x)), λ a x. (s i h).1 (a ((r i h).0 x)))

    iff_repeats : Repeats p m (λ i. P i ↔ Q i)
    iff_repeats = λ i h. (
      λ a. (λ x. (s i h).0 (a.0 ((r i h).1 x)), λ x. (r i h).0 (a.1 ((s i h).1 x))),
      λ a. (λ x. (s i h).1 (a.0 ((r i h).0 x)), λ x. (r i h).1 (a.1 ((s i h).0 x))),
    )

    until_repeats : Repeats p m (Until P Q)
    until_repeats = λ i h. (
      λ a. (
        a.0 + p,
        omega (arith, a.1),
        (s a.0 (omega (arith, a.1))).0 a.2,
        λ k lo hi. up P m r k (omega arith) (a.3 (k - p) (omega arith) (omega arith)),
      ),
      λ a. (
        a.0 - p,
        omega (arith, a.1),
        down Q m s a.0 (omega (arith, a.1)) a.2,
        λ k lo hi. (r k (omega arith)).1 (a.3 (k + p) (omega arith) (omega arith)),
      ),
    )

    releases_repeats : Repeats p m (Releases P Q)
    releases_repeats = λ i h. (
      λ a. λ j le. elim (a (j - p) (omega arith)) [
        | inl x ↦ inl (up Q m s j (omega arith) x)
        | inr x ↦ inr (x.0 + p, omega (arith, x.1), omega (arith, x.2), (r x.0 (omega (arith, x.1))).0 x.3)
      ],
      λ a. λ j le. elim (a (j + p) (omega arith)) [
        | inl x ↦ inl ((s j (omega arith)).1 x)
        | inr x ↦ inr (x.0 - p, omega (arith, x.1), omega (arith, x.1, x.2), down P m r x.0 (omega (arith, x.1)) x.3)
      ],
    )

    since_repeats : Repeats p (m + p) (Since P Q)
    since_repeats = λ i h. (
      λ a. elim (cases_lt a.0 m) [
        | inl b ↦ (
          a.0,
          omega (arith, a.1),
          a.2,
          λ k lo hi. elim (cases_lt i k) [
            | inl far ↦ up P m r k (omega arith) (a.3 (k - p) (omega arith) (omega arith))
            | inr near ↦ a.3 k lo near
          ],
        )
        | inr b ↦ (
          a.0 + p,
          omega (arith, a.1),
          (s a.0 b).0 a.2,
          λ k lo hi. up P m r k (omega arith) (a.3 (k - p) (omega arith) (omega arith)),
        )
      ],
      λ a. elim (cases_lt a.0 (m + p)) [
        | inl b ↦ (a.0, omega (arith, a.1), a.2, λ k lo hi. a.3 k lo (omega arith))
        | inr b ↦ (
          a.0 - p,
          omega (arith, a.1),
          down Q m s a.0 b a.2,
          λ k lo hi. (r k (omega arith)).1 (a.3 (k + p) (omega arith) (omega arith)),
        )
      ],
    )

    triggered_repeats : Repeats p (m + p) (Triggered P Q)
    triggered_repeats = λ i h. (
      λ a. λ j le. elim (cases_lt j (m + p)) [
        | inl b ↦ elim (a j (omega arith)) [ inl x ↦ inl x | inr x ↦ inr (x.0, x.1, omega (arith, x.2), x.3) ]
        | inr b ↦ elim (a (j - p) (omega arith)) [
          | inl x ↦ inl (up Q m s j b x)
          | inr x ↦ inr (x.0 + p, omega (arith, x.1), omega (arith, x.2), (r x.0 (omega (arith, x.1))).0 x.3)
        ]
      ],
      λ a. λ j le. elim (cases_lt j m) [
        | inl b ↦ elim (a j (omega arith)) [
          | inl x ↦ inl x
          | inr x ↦ elim (cases_lt i x.0) [
            | inl far ↦ inr (x.0 - p, omega arith, omega (arith, x.2), down P m r x.0 (omega arith) x.3)
            | inr near ↦ inr (x.0, x.1, near, x.3)
          ]
        ]
        | inr b ↦ elim (a (j + p) (omega arith)) [
          | inl x ↦ inl ((s j b).1 x)
          | inr x ↦ inr (x.0 - p, omega (arith, x.1), omega (arith, x.2), down P m r x.0 (omega (arith, x.1)) x.3)
        ]
      ],
    )

  -- an operator's truth repeats where its operands' does, a past one's after one pass more
  pub unary_repeats : 0 < p → (o : UnaryOperator) (P : Moment) (m : ℕ) → Repeats p m P → Repeats p (m + past_unary o * p) (unary_truth o P)
  unary_repeats some UnaryOperator.Not P m r = from_later _ m _ (omega arith) (not_repeats P m r)
  unary_repeats some UnaryOperator.Next P m r = from_later _ m _ (omega arith) (next_repeats P m r)
  unary_repeats some UnaryOperator.Finally P m r = from_later _ m _ (omega arith) (finally_repeats P m r)
  unary_repeats some UnaryOperator.Globally P m r = from_later _ m _ (omega arith) (globally_repeats P m r)
  unary_repeats some UnaryOperator.Yesterday P m r = from_later _ (m + p) _ (omega arith) (yesterday_repeats P m r some)
  unary_repeats some UnaryOperator.WeakYesterday P m r = from_later _ (m + p) _ (omega arith) (weak_yesterday_repeats P m r some)
  unary_repeats some UnaryOperator.Once P m r = from_later _ (m + p) _ (omega arith) (once_repeats P m r)
  unary_repeats some UnaryOperator.Historically P m r = from_later _ (m + p) _ (omega arith) (historically_repeats P m r)
  unary_repeats some UnaryOperator.NowOrNext P m r = from_later _ m _ (omega arith) (or_repeats P _ m r (next_repeats P m r))
  unary_repeats some UnaryOperator.NowAndNext P m r = from_later _ m _ (omega arith) (and_repeats P _ m r (next_repeats P m r))
  unary_repeats some UnaryOperator.NowOrBefore P m r =
      from_later _ (m + p) _ (omega arith) (or_repeats P _ (m + p) (from_later P m _ (omega arith) r) (yesterday_repeats P m r some))
  unary_repeats some UnaryOperator.NowAndBefore P m r =
      from_later _ (m + p) _ (omega arith) (and_repeats P _ (m + p) (from_later P m _ (omega arith) r) (weak_yesterday_repeats P m r some))

  pub binary_repeats : (o : BinaryOperator) (P Q : Moment) (m : ℕ) → Repeats p m P → Repeats p m Q →
      Repeats p (m + past_binary o * p) (binary_truth o P Q)
  binary_repeats BinaryOperator.And P Q m r s = from_later _ m _ (omega arith) (and_repeats P Q m r s)
  binary_repeats BinaryOperator.Or P Q m r s = from_later _ m _ (omega arith) (or_repeats P Q m r s)
  binary_repeats BinaryOperator.Xor P Q m r s = from_later _ m _ (omega arith) (xor_repeats P Q m r s)
  binary_repeats BinaryOperator.Xnor P Q m r s = from_later _ m _ (omega arith) (iff_repeats P Q m r s)
  binary_repeats BinaryOperator.Implies P Q m r s = from_later _ m _ (omega arith) (implies_repeats P Q m r s)
  binary_repeats BinaryOperator.Iff P Q m r s = from_later _ m _ (omega arith) (iff_repeats P Q m r s)
  binary_repeats BinaryOperator.Until P Q m r s = from_later _ m _ (omega arith) (until_repeats P Q m r s)
  binary_repeats BinaryOperator.Releases P Q m r s = from_later _ m _ (omega arith) (releases_repeats P Q m r s)
  binary_repeats BinaryOperator.Since P Q m r s = from_later _ (m + p) _ (omega arith) (since_repeats P Q m r s)
  binary_repeats BinaryOperator.Triggered P Q m r s = from_later _ (m + p) _ (omega arith) (triggered_repeats P Q m r s)

  -- what is the same at all times repeats
  pub constant_repeats : (A : Type 0) (m : ℕ) → Repeats p m (λ i. A)
  constant_repeats A m = λ i h. (λ x. x, λ x. x)

  -- what repeats each pass repeats after any number of passes
  pub repeats_many : (m : ℕ) (P : Moment) → Repeats p m P → (c i : ℕ) → m ≤ i → P i ↔ P (i + c * p)
  repeats_many m P r zero i h = let e : i + 0 * p ≡ i = omega arith in (λ x. subst P (sym e) x, λ x. subst P e x)
  repeats_many m P r (suc c) i h =
      let e : i + suc c * p ≡ i + c * p + p = omega arith in
      let a = repeats_many m P r c i h in
      let b = r (i + c * p) (omega arith) in
      (λ x. subst P (sym e) (b.0 (a.0 x)), λ x. a.1 (b.1 (subst P e x)))

-- where a formula of past height h begins to repeat
abbrev pub steady : ℕ → ℕ → ℕ → ℕ
steady start p h = start + h * p

module _ (start p : ℕ) where
  pub wider : (a b : ℕ) → a ≤ b → steady start p a ≤ steady start p b
  wider a b h = omega (arith, mul-le-mul_right p h)

  pub left : (P : Moment) (a b : ℕ) → Repeats p (steady start p a) P → Repeats p (steady start p (max a b)) P
  left P a b r = from_later p P _ _ (wider a (max a b) (omega arith)) r

  pub right : (P : Moment) (a b : ℕ) → Repeats p (steady start p b) P → Repeats p (steady start p (max a b)) P
  right P a b r = from_later p P _ _ (wider b (max a b) (omega arith)) r

  module _ (atoms : ℕ → Moment) (some : 0 < p) (each : (a : ℕ) → Repeats p start (atoms a)) where
    -- truth repeats with each pass, once as many passes are over as past operators nest
    pub repeats : (f : Ltl) → Repeats p (steady start p (past_height f)) (Satisfies atoms f)
    repeats (Ltl.Constant b) = constant_repeats p (IsTrue b) _
    repeats (Ltl.Atom a) = from_later p _ start _ (omega arith) (each a)
    repeats (Ltl.Unary o f) = from_later p _ _ _ (omega arith) (unary_repeats p some o _ _ (repeats f))
    repeats (Ltl.Binary o f g) =
        from_later p _ _ _ (omega arith)
        (binary_repeats p o _ _ _ (left _ _ (past_height g) (repeats f)) (right _ (past_height f) _ (repeats g)))

pub some_period : (w : Word) → 0 < period w
some_period w = omega (arith, w.loops)

at_loop : (w : Word) (i : ℕ) → w.start ≤ i → place w i ≡ w.start + (i - w.start) % period w
at_loop w i h = elim (cases_lt i (length w.times)) [
  | inl b ↦
      let small : i - w.start < period w = omega (arith, w.loops) in
      let e : (i - w.start) % period w ≡ i - w.start = mod-eq_of_lt small in
      grind (arith, nat_tests)
  | inr b ↦ grind (arith, nat_tests)
]

pub atoms_repeat : (w : Word) (a : ℕ) → Repeats (period w) w.start (on w a)
atoms_repeat w a = λ i h.
    let far : w.start ≤ i + period w = omega arith in
    let e : i + period w - w.start ≡ i - w.start + period w = omega arith in
    let same : (i + period w - w.start) % period w ≡ (i - w.start) % period w =
    ap (λ n. n % period w) e ∙ add-mod_right (i - w.start) (period w) in
    let at : place w (i + period w) ≡ place w i = at_loop w (i + period w) far ∙ ap (λ n. w.start + n) same ∙ sym (at_loop w i h) in (
      λ x. subst (λ n. IsTrue (slice_index_or (slice_index_or w.times n []) a false)) (sym at) x,
      λ x. subst (λ n. IsTrue (slice_index_or (slice_index_or w.times n []) a false)) at x,
    )

-- on a word truth repeats with each pass, once as many passes are over as past operators nest
pub word_repeats : (f : Ltl) (w : Word) → Repeats (period w) (w.start + past_height f * period w) (Satisfies (on w) f)
word_repeats f w = repeats w.start (period w) (on w) (some_period w) (atoms_repeat w) f
