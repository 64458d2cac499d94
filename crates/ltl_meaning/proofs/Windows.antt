-- What an operator says where it is repeated, and an operator with bounds as two that are.
use Rattle.std.proofs.Common.{◌≡◌, ℕ, zero, suc, ◌+◌, ◌-◌, ◌*◌, ◌<◌, ◌≤◌, inl, inr, refl, sym, ap, subst, arith, add-one}
use Rattle.std.specs.Prelude.{◌↔◌}
use Rattle.std.proofs.lemmas.Bool.{cases_lt}
use Rattle.std.proofs.Math.Nat.{mul-le-mul_right}
use Rattle.ltl_meaning.specs.declared.node.UnaryOperator.{UnaryOperator}
use Rattle.ltl_meaning.specs.declared.node.BoundedOperator.{BoundedOperator}
use Rattle.ltl_meaning.specs.declared.node.Window.{Window}
use Rattle.ltl_meaning.specs.Ltl.{Ltl, past_unary, past_height}
use Rattle.ltl_meaning.specs.Temporal.{past_bounded}
use Rattle.ltl_meaning.specs.Truth.{Moment, FinallyWithin, GloballyWithin, OnceWithin, HistoricallyWithin, bounded_truth, Satisfies}
use Rattle.ltl_meaning.specs.Unfolded.{repeated, delay, widen}

module _ (atoms : ℕ → Moment) (f : Ltl) where
  abbrev Holds : Moment
  Holds = Satisfies atoms f

  next_many : (n t : ℕ) → Satisfies atoms (repeated UnaryOperator.Next n f) t ↔ Holds (t + n)
  unfolding repeated
  next_many zero t = let e : t ≡ t + 0 = omega arith in (λ x. subst Holds e x, λ x. subst Holds (sym e) x)
  next_many (suc n) t =
      let e : t + 1 + n ≡ t + suc n = omega arith in
      let i = next_many n (t + 1) in
      (λ x. subst Holds e (i.0 x), λ x. i.1 (subst Holds (sym e) x))

  yesterday_many : (n t : ℕ) → Satisfies atoms (repeated UnaryOperator.Yesterday n f) t ↔ ((u : ℕ) × (u + n ≡ t) × Holds u)
  unfolding repeated
  yesterday_many zero t = (λ x. (t, omega arith, x), λ a. let e : a.0 ≡ t = omega (arith, a.1) in subst Holds e a.2)
  yesterday_many (suc n) zero = (λ x. absurd x, λ a. absurd (omega (arith, a.1)))
  yesterday_many (suc n) (suc t) =
      let i = yesterday_many n t in
      (λ x. let a = i.0 x in (a.0, omega (arith, a.1), a.2), λ a. i.1 (a.0, omega (arith, a.1), a.2))

  weak_yesterday_many : (n t : ℕ) → Satisfies atoms (repeated UnaryOperator.WeakYesterday n f) t ↔ ((u : ℕ) → u + n ≡ t → Holds u)
  unfolding repeated
  weak_yesterday_many zero t = (
    λ x u h. let e : t ≡ u = omega arith in subst Holds e x,
    λ a. a t (omega arith),
  )
  weak_yesterday_many (suc n) zero = (λ x u h. absurd (omega arith), λ a. tt)
  weak_yesterday_many (suc n) (suc t) =
      let i = weak_yesterday_many n t in
      (λ x u h. i.0 x u (omega arith), λ a. i.1 (λ u h. a u (omega arith)))

  finally_many : (n t : ℕ) → Satisfies atoms (repeated UnaryOperator.NowOrNext n f) t ↔ FinallyWithin 0 n Holds t
  unfolding repeated
  finally_many zero t = (
    λ x. (t, omega arith, omega arith, x),
    λ a. let e : a.0 ≡ t = omega (arith, a.1, a.2) in subst Holds e a.3,
  )
  finally_many (suc n) t =
      let i = finally_many n t in
      let j = finally_many n (t + 1) in (
        λ x. elim x [
          | inl y ↦ let a = i.0 y in (a.0, a.1, omega (arith, a.2), a.3)
          | inr y ↦ let a = j.0 y in (a.0, omega (arith, a.1), omega (arith, a.2), a.3)
        ],
        λ a. elim (cases_lt a.0 (t + n + 1)) [
          | inl b ↦ inl (i.1 (a.0, a.1, omega (arith, b), a.3))
          | inr b ↦ inr (j.1 (a.0, omega (arith, b), omega (arith, a.2), a.3))
        ],
      )

  globally_many : (n t : ℕ) → Satisfies atoms (repeated UnaryOperator.NowAndNext n f) t ↔ GloballyWithin 0 n Holds t
  unfolding repeated
  globally_many zero t = (
    λ x u lo hi. let e : t ≡ u = omega arith in subst Holds e x,
    λ a. a t (omega arith) (omega arith),
  )
  globally_many (suc n) t =
      let i = globally_many n t in
      let j = globally_many n (t + 1) in (
        λ x u lo hi. elim (cases_lt u (t + n + 1)) [
          | inl b ↦ i.0 x.0 u lo (omega arith)
          | inr b ↦ j.0 x.1 u (omega arith) (omega arith)
        ],
        λ a. (i.1 (λ u lo hi. a u lo (omega arith)), j.1 (λ u lo hi. a u (omega arith) (omega arith))),
      )

  once_many : (n t : ℕ) → Satisfies atoms (repeated UnaryOperator.NowOrBefore n f) t ↔ OnceWithin 0 n Holds t
  unfolding repeated
  once_many zero t = (
    λ x. (t, omega arith, omega arith, x),
    λ a. let e : a.0 ≡ t = omega (arith, a.1, a.2) in subst Holds e a.3,
  )
  once_many (suc n) zero =
      let i = once_many n zero in (
        λ x. elim x [ inl y ↦ let a = i.0 y in (a.0, omega arith, a.2, a.3) | inr y ↦ absurd y ],
        λ a. inl (i.1 (a.0, omega arith, a.2, a.3)),
      )
  once_many (suc n) (suc t) =
      let i = once_many n (suc t) in
      let j = once_many n t in (
        λ x. elim x [
          | inl y ↦ let a = i.0 y in (a.0, omega (arith, a.1), a.2, a.3)
          | inr y ↦ let a = j.0 y in (a.0, omega (arith, a.1), omega (arith, a.2), a.3)
        ],
        λ a. elim (cases_lt a.0 (suc t)) [
          | inl b ↦ inr (j.1 (a.0, omega (arith, a.1), omega (arith, b), a.3))
          | inr b ↦ inl (i.1 (a.0, omega (arith, b), a.2, a.3))
        ],
      )

  historically_many : (n t : ℕ) → Satisfies atoms (repeated UnaryOperator.NowAndBefore n f) t ↔ HistoricallyWithin 0 n Holds t
  unfolding repeated
  historically_many zero t = (
    λ x u lo hi. let e : t ≡ u = omega arith in subst Holds e x,
    λ a. a t (omega arith) (omega arith),
  )
  historically_many (suc n) zero =
      let i = historically_many n zero in (
        λ x u lo hi. i.0 x.0 u (omega arith) hi,
        λ a. (i.1 (λ u lo hi. a u (omega arith) hi), tt),
      )
  historically_many (suc n) (suc t) =
      let i = historically_many n (suc t) in
      let j = historically_many n t in (
        λ x u lo hi. elim (cases_lt u (suc t)) [
          | inl b ↦ j.0 x.1 u (omega arith) (omega arith)
          | inr b ↦ i.0 x.0 u (omega arith) hi
        ],
        λ a. (i.1 (λ u lo hi. a u (omega arith) hi), j.1 (λ u lo hi. a u (omega arith) (omega arith))),
      )

-- past operators nest as often as one is repeated
repeated_height : (f : Ltl) (o : UnaryOperator) (n : ℕ) → past_height (repeated o n f) ≡ n * past_unary o + past_height f
unfolding repeated
repeated_height f o zero = omega arith
repeated_height f o (suc n) = omega (arith, repeated_height f o n)

-- once more
pub repeated_more : (o : UnaryOperator) (n : ℕ) (f : Ltl) → repeated o (n + 1) f ≡ Ltl.Unary o (repeated o n f)
unfolding repeated
repeated_more o n f = ap (λ k. repeated o k f) (add-one n)

pub repeated_none : (o : UnaryOperator) (f : Ltl) → repeated o 0 f ≡ f
unfolding repeated
repeated_none o f = refl

-- fewer times they nest no deeper
pub repeated_rises : (f : Ltl) (o : UnaryOperator) (m n : ℕ) → m ≤ n → past_height (repeated o m f) ≤ past_height (repeated o n f)
repeated_rises f o m n h = omega (arith, repeated_height f o m, repeated_height f o n, mul-le-mul_right (past_unary o) h)

-- an operator with bounds, step by step
pub bounded_steps : (atoms : ℕ → Moment) (f : Ltl) (o : BoundedOperator) (w : Window) (t : ℕ) →
    Satisfies atoms (repeated (delay o) w.low (repeated (widen o) (w.high - w.low) f)) t ↔ bounded_truth o w (Satisfies atoms f) t
bounded_steps atoms f BoundedOperator.Finally w t =
    let h : w.low ≤ w.high = w.ordered in
    let d = next_many atoms (repeated UnaryOperator.NowOrNext (w.high - w.low) f) w.low t in
    let k = finally_many atoms f (w.high - w.low) (t + w.low) in (
      λ x. let a = k.0 (d.0 x) in (a.0, omega (arith, a.1), omega (arith, a.2), a.3),
      λ a. d.1 (k.1 (a.0, omega (arith, a.1), omega (arith, a.2), a.3)),
    )
bounded_steps atoms f BoundedOperator.Globally w t =
    let h : w.low ≤ w.high = w.ordered in
    let d = next_many atoms (repeated UnaryOperator.NowAndNext (w.high - w.low) f) w.low t in
    let k = globally_many atoms f (w.high - w.low) (t + w.low) in (
      λ x u lo hi. k.0 (d.0 x) u (omega arith) (omega arith),
      λ a. d.1 (k.1 (λ u lo hi. a u (omega arith) (omega arith))),
    )
bounded_steps atoms f BoundedOperator.Once w t =
    let h : w.low ≤ w.high = w.ordered in
    let d = yesterday_many atoms (repeated UnaryOperator.NowOrBefore (w.high - w.low) f) w.low t in (
      λ x. let b = d.0 x in let a = (once_many atoms f (w.high - w.low) b.0).0 b.2 in (a.0, omega (arith, a.1, b.1), omega (arith, a.2, b.1), a.3),
      λ a. d.1 (t - w.low, omega (arith, a.2), (once_many atoms f (w.high - w.low) (t - w.low)).1 (a.0, omega (arith, a.1), omega (arith, a.2), a.3)),
    )
bounded_steps atoms f BoundedOperator.Historically w t =
    let h : w.low ≤ w.high = w.ordered in
    let d = weak_yesterday_many atoms (repeated UnaryOperator.NowAndBefore (w.high - w.low) f) w.low t in (
      λ x u lo hi. (historically_many atoms f (w.high - w.low) (t - w.low)).0 (d.0 x (t - w.low) (omega arith)) u (omega arith) (omega arith),
      λ a. d.1 (λ v e. (historically_many atoms f (w.high - w.low) v).1 (λ u lo hi. a u (omega arith) (omega arith))),
    )

pub bounded_height : (f : Ltl) (o : BoundedOperator) (w : Window) →
    past_height (repeated (delay o) w.low (repeated (widen o) (w.high - w.low) f)) ≡ past_bounded o w + past_height f
bounded_height f BoundedOperator.Finally w =
    let h : w.low ≤ w.high = w.ordered in
    omega (arith, repeated_height (repeated UnaryOperator.NowOrNext (w.high - w.low) f) UnaryOperator.Next w.low, repeated_height f UnaryOperator.NowOrNext (w.high - w.low))
bounded_height f BoundedOperator.Globally w =
    let h : w.low ≤ w.high = w.ordered in
    omega (arith, repeated_height (repeated UnaryOperator.NowAndNext (w.high - w.low) f) UnaryOperator.Next w.low, repeated_height f UnaryOperator.NowAndNext (w.high - w.low))
bounded_height f BoundedOperator.Once w =
    let h : w.low ≤ w.high = w.ordered in
    omega (arith, repeated_height (repeated UnaryOperator.NowOrBefore (w.high - w.low) f) UnaryOperator.Yesterday w.low, repeated_height f UnaryOperator.NowOrBefore (w.high - w.low))
bounded_height f BoundedOperator.Historically w =
    let h : w.low ≤ w.high = w.ordered in
    omega (arith, repeated_height (repeated UnaryOperator.NowAndBefore (w.high - w.low) f) UnaryOperator.WeakYesterday w.low, repeated_height f UnaryOperator.NowAndBefore (w.high - w.low))
