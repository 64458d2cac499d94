-- A negation goes inwards through the temporal operators. Where a direction needs it, what holds at
-- a time is taken to be decided.
use Rattle.std.proofs.Common.{ℕ, zero, suc, ◌+◌, ◌<◌, ◌≤◌, inl, inr, arith}
use Rattle.std.specs.Prelude.{◌↔◌}
use Rattle.ltl_meaning.specs.Truth.{Moment, Finally, Globally, Until, Releases, Yesterday, WeakYesterday, Once, Historically, Since, Triggered}
use Rattle.ltl_meaning.proofs.Decide.{Decided, all_below, decided_not, decided_imp, decided_le, decided_lt, decide_since}

-- what does not hold
abbrev pub Never : Moment → Moment
Never P t = ¬ P t

module _ (P : Moment) where
  pub not_finally : (t : ℕ) → (¬ Finally P t) ↔ Globally (Never P) t
  not_finally t = (λ n u le x. n (u, le, x), λ a w. a w.0 w.1 w.2)

  pub not_globally_from : (t : ℕ) → Finally (Never P) t → ¬ Globally P t
  not_globally_from t w a = w.2 (a w.0 w.1)

  pub not_once : (t : ℕ) → (¬ Once P t) ↔ Historically (Never P) t
  not_once t = (λ n u le x. n (u, le, x), λ a w. a w.0 w.1 w.2)

  pub not_historically_from : (t : ℕ) → Once (Never P) t → ¬ Historically P t
  not_historically_from t w a = w.2 (a w.0 w.1)

  pub not_yesterday : (t : ℕ) → (¬ Yesterday P t) ↔ WeakYesterday (Never P) t
  not_yesterday zero = (λ n. tt, λ a x. x)
  not_yesterday (suc t) = (λ n. n, λ n. n)

  pub not_weak_yesterday : (t : ℕ) → (¬ WeakYesterday P t) ↔ Yesterday (Never P) t
  not_weak_yesterday zero = (λ n. n tt, λ a. absurd a)
  not_weak_yesterday (suc t) = (λ n. n, λ n. n)

  module _ (d : Decided P) where
    pub double : (t : ℕ) → (¬ (¬ P t)) → P t
    double t n = elim (d t) [ inl x ↦ x | inr k ↦ absurd (n k) ]

    pub not_globally : Decided (Finally (Never P)) → (t : ℕ) → (¬ Globally P t) ↔ Finally (Never P) t
    not_globally e t = (
      λ n. elim (e t) [ inl w ↦ w | inr k ↦ absurd (n (λ u le. double u (λ x. k (u, le, x)))) ],
      not_globally_from t,
    )

    pub not_historically : (t : ℕ) → (¬ Historically P t) ↔ Once (Never P) t
    not_historically t = (
      λ n. elim (all_below P d (t + 1)) [
        | inl all ↦ absurd (n (λ u le. all u (omega arith)))
        | inr w ↦ (w.0, omega (arith, w.1), w.2)
      ],
      not_historically_from t,
    )

module _ (P Q : Moment) where
  pub not_until_from : (t : ℕ) → Releases (Never P) (Never Q) t → ¬ Until P Q t
  not_until_from t r w = elim (r w.0 w.1) [ inl n ↦ n w.2 | inr v ↦ v.3 (w.3 v.0 v.1 v.2) ]

  pub not_releases_from : (t : ℕ) → Until (Never P) (Never Q) t → ¬ Releases P Q t
  not_releases_from t w r = elim (r w.0 w.1) [ inl q ↦ w.2 q | inr v ↦ w.3 v.0 v.1 v.2 v.3 ]

  pub not_since_from : (t : ℕ) → Triggered (Never P) (Never Q) t → ¬ Since P Q t
  not_since_from t r w = elim (r w.0 w.1) [ inl n ↦ n w.2 | inr v ↦ v.3 (w.3 v.0 v.1 v.2) ]

  pub not_triggered_from : (t : ℕ) → Since (Never P) (Never Q) t → ¬ Triggered P Q t
  not_triggered_from t w r = elim (r w.0 w.1) [ inl q ↦ w.2 q | inr v ↦ w.3 v.0 v.1 v.2 v.3 ]

  module _ (dp : Decided P) (dq : Decided Q) where
    pub not_until : (t : ℕ) → (¬ Until P Q t) ↔ Releases (Never P) (Never Q) t
    not_until t = (
      λ n u le. elim (dq u) [
        | inr k ↦ inl k
        | inl q ↦ elim (all_below (λ v. t ≤ v → P v) (λ v. decided_imp (decided_le t v) (dp v)) u) [
          | inl all ↦ absurd (n (u, le, q, λ v lo hi. all v hi lo))
          | inr w ↦ elim (decided_le t w.0) [
            | inl lo ↦ inr (w.0, lo, w.1, λ x. w.2 (λ h. x))
            | inr k ↦ absurd (w.2 (λ h. absurd (k h)))
          ]
        ]
      ],
      not_until_from t,
    )

    pub not_since : (t : ℕ) → (¬ Since P Q t) ↔ Triggered (Never P) (Never Q) t
    not_since t = (
      λ n u le. elim (dq u) [
        | inr k ↦ inl k
        | inl q ↦ elim (all_below (λ v. u < v → P v) (λ v. decided_imp (decided_lt u v) (dp v)) (t + 1)) [
          | inl all ↦ absurd (n (u, le, q, λ v lo hi. all v (omega arith) lo))
          | inr w ↦ elim (decided_lt u w.0) [
            | inl lo ↦ inr (w.0, lo, omega (arith, w.1), λ x. w.2 (λ h. x))
            | inr k ↦ absurd (w.2 (λ h. absurd (k h)))
          ]
        ]
      ],
      not_since_from t,
    )

-- the other two, from these at the negations
module _ (P Q : Moment) (dp : Decided P) (dq : Decided Q) where
  pub not_releases : Decided (Until (Never P) (Never Q)) → (t : ℕ) → (¬ Releases P Q t) ↔ Until (Never P) (Never Q) t
  not_releases e t = (
    λ n. elim (e t) [
      | inl w ↦ w
      | inr k ↦
          let r = (not_until (Never P) (Never Q) (λ i. decided_not (dp i)) (λ i. decided_not (dq i)) t).0 k in
          absurd (n (λ u le. elim (r u le) [ inl q ↦ inl (double Q dq u q) | inr v ↦ inr (v.0, v.1, v.2, double P dp v.0 v.3) ]))
    ],
    not_releases_from P Q t,
  )

  pub not_triggered : (t : ℕ) → (¬ Triggered P Q t) ↔ Since (Never P) (Never Q) t
  not_triggered t = (
    λ n. elim (decide_since (Never P) (Never Q) (λ i. decided_not (dp i)) (λ i. decided_not (dq i)) t) [
      | inl w ↦ w
      | inr k ↦
          let r = (not_since (Never P) (Never Q) (λ i. decided_not (dp i)) (λ i. decided_not (dq i)) t).0 k in
          absurd (n (λ u le. elim (r u le) [ inl q ↦ inl (double Q dq u q) | inr v ↦ inr (v.0, v.1, v.2, double P dp v.0 v.3) ]))
    ],
    not_triggered_from P Q t,
  )
