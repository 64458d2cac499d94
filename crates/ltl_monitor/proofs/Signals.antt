-- On a fair monitored lasso signals come for ever.
use Rattle.std.proofs.Common.{◌≡◌, ℕ, zero, suc, ◌+◌, ◌-◌, ◌*◌, ◌<◌, ◌≤◌, ◌⊎◌, inl, inr, Bool, true, not, ◌&&◌, ◌||◌, List, [], ◌∷◌, refl, sym, ap, ◌∙◌, subst, arith}
use Rattle.std.proofs.lemmas.Bool.{cases_Bool, cases_eq, or_left, or_right, and_from, not_from_false}
use Rattle.ltl_meaning.specs.Ltl.{Ltl, past_height}
use Rattle.ltl_meaning.proofs.Walk.{walk}
use Rattle.ltl_monitor.specs.Monitor.{Side, Set, Each, all_sets, IsFairMonitored}
use Rattle.ltl_monitor.specs.Signal.{every, seen, signal, count}
use Rattle.ltl_monitor.specs.FairLasso.{Sequence, Loops, Violates, beside, Signals}
use Rattle.ltl_monitor.proofs.Lassos.{each_weaker, around, around_rows, within, to_monitor, walk_same, side_eq}

every_true : (p : Set → Bool) (zs : List Set) → Each (λ z. p z ≡ true) zs → every p zs ≡ true
every_true p [] h = refl
every_true p (z ∷ zs) h = and_from (p z) _ h.0 (every_true p zs h.1)

module _ (zs : List Set) (s : ℕ → Side) where
  seen_next : (i : ℕ) (z : Set) → seen zs s (i + 1) z ≡ (not (signal zs s i) && (seen zs s i z || z (s i)))
  unfolding seen
  seen_next i z = let e : i + 1 ≡ suc i = omega arith in ap (λ n. seen zs s n z) e

  -- from i on: a signal within q states, or all that held is seen
  gap : (i q : ℕ) → ((j : ℕ) × (i ≤ j) × (j < i + q) × (signal zs s j ≡ true)) ⊎ ((z : Set) (j : ℕ) → i ≤ j → j < i + q → z (s j) ≡ true → seen zs s (i + q) z ≡ true)
  gap i zero = inr (λ z j lo hi h. absurd (omega arith))
  gap i (suc q) = elim (gap i q) [
    | inl w ↦ inl (w.0, w.1, omega (arith, w.2), w.3)
    | inr all ↦ elim (cases_Bool (signal zs s (i + q))) [
      | inl t ↦ inl (i + q, omega arith, omega arith, t)
      | inr f ↦ inr (λ z j lo hi h.
          let e : i + suc q ≡ i + q + 1 = omega arith in
          ap (λ n. seen zs s n z) e ∙ seen_next (i + q) z ∙ and_from (not (signal zs s (i + q))) _ (not_from_false (signal zs s (i + q)) f)
          (elim (cases_eq j (i + q)) [
            | inl same ↦ or_right (seen zs s (i + q) z) _ (ap (λ n. z (s n)) (sym same) ∙ h)
            | inr other ↦ or_left (seen zs s (i + q) z) _ (all z j lo (omega arith) h)
          ]))
    ]
  ]

  module _ (p : ℕ) (again : Each (λ z. (i : ℕ) → (j : ℕ) × (i ≤ j) × (j < i + p) × (z (s j) ≡ true)) zs) where
    -- a signal within each p + 1 states
    signal_within : (i : ℕ) → (j : ℕ) × (i ≤ j) × (j < i + p + 1) × (signal zs s j ≡ true)
    signal_within i = elim (gap i p) [
      | inl w ↦ (w.0, w.1, omega (arith, w.2), w.3)
      | inr all ↦ (
        i + p,
        omega arith,
        omega arith,
        every_true (λ z. seen zs s (i + p) z || z (s (i + p))) zs
            (each_weaker _ _ (λ z h. let w = h i in or_left (seen zs s (i + p) z) _ (all z w.0 w.1 w.2 w.3)) zs again),
      )
    ]

    count_same_or_more : (i : ℕ) → count zs s i ≤ count zs s (suc i)
    count_same_or_more i = elim (cases_Bool (signal zs s i)) [ inl t ↦ rw t (omega arith) | inr f ↦ rw f (omega arith) ]

    count_more : (i : ℕ) → signal zs s i ≡ true → count zs s (suc i) ≡ count zs s i + 1
    count_more i t = rw t refl

    count_grows : (d i : ℕ) → count zs s i ≤ count zs s (i + d)
    count_grows zero i = let e : i + 0 ≡ i = omega arith in omega (arith, ap (count zs s) e)
    count_grows (suc d) i =
        let e : i + suc d ≡ suc (i + d) = omega arith in
        let r = count_grows d i in
        let t = count_same_or_more (i + d) in
        omega (arith, ap (count zs s) e, r, t)

    pub signals_come : (m : ℕ) → m ≤ count zs s (m * (p + 1))
    signals_come zero = omega arith
    signals_come (suc m) =
        let r = signals_come m in
        let w = signal_within (m * (p + 1)) in
        let lo : m * (p + 1) ≤ w.0 = w.1 in
        let hi : w.0 < m * (p + 1) + p + 1 = w.2 in
        let a : m * (p + 1) + (w.0 - m * (p + 1)) ≡ w.0 = omega arith in
        let b : suc w.0 + (m * (p + 1) + p - w.0) ≡ suc m * (p + 1) = omega arith in
        let first = count_grows (w.0 - m * (p + 1)) (m * (p + 1)) in
        let more = count_more w.0 w.3 in
        let rest = count_grows (m * (p + 1) + p - w.0) (suc w.0) in
        omega (arith, r, first, ap (count zs s) a, more, rest, ap (count zs s) b)

module _ (justice : List ℕ) (f : Ltl) (s : ℕ → Side) (n l : ℕ) (inside : l < n) (w : IsFairMonitored justice f s n l) where
  -- a fair monitored lasso, gone round often enough, has as many signals as one likes
  pub lasso_signals : (m : ℕ) → (N : ℕ) × Signals justice f (λ i. s (walk n l i)) N m
  lasso_signals m =
      let c = signals_come (all_sets justice f) (around justice f s n l inside w) (n + n) (each_weaker _ _ (λ z a. within justice f s n l inside w z a) (all_sets justice f) w.fair) m in (
        m * (n + n + 1) + 1,
        record {
          some = omega arith;
          run = record { steps = λ i h. around_rows justice f s n l inside w i; first = w.run.first; root = w.run.root };
          counted = let g = count_grows (all_sets justice f) (around justice f s n l inside w) (n + n) (each_weaker _ _ (λ z a. within justice f s n l inside w z a) (all_sets justice f) w.fair) 1 (m * (n + n + 1)) in omega (arith, c, g);
        },
      )

-- if no monitored run along the lasso has k + 1 signals, the lasso does not violate
pub none_violates : (justice : List ℕ) (f : Ltl) (x : Sequence) (n l : ℕ) (inside : l < n) (loops : Loops x l (n - l)) (k : ℕ) →
    ((b : ℕ → ℕ → Bool) (m : ℕ) → Signals justice f (beside x b) m (k + 1) → ⊥) → Violates justice f x n l → ⊥
none_violates justice f x n l inside loops k none v =
    let w = to_monitor justice f x n l inside loops v in
    let r = lasso_signals justice f (beside x w.0) (n + past_height f * (n - l)) (l + past_height f * (n - l)) (omega arith) w.1 (k + 1) in
    let e : (i : ℕ) → beside x w.0 (walk (n + past_height f * (n - l)) (l + past_height f * (n - l)) i) ≡ beside x (λ j. w.0 (walk (n + past_height f * (n - l)) (l + past_height f * (n - l)) j)) i =
    λ i. side_eq _ _ (λ a. walk_same justice f x n l inside loops (past_height f) i a) (λ j. refl) in
    let together : (λ i. beside x w.0 (walk (n + past_height f * (n - l)) (l + past_height f * (n - l)) i)) ≡ beside x (λ j. w.0 (walk (n + past_height f * (n - l)) (l + past_height f * (n - l)) j)) =
    λ j i. e i j in
    none (λ j. w.0 (walk (n + past_height f * (n - l)) (l + past_height f * (n - l)) j)) r.0 (subst (λ s. Signals justice f s r.0 (k + 1)) together r.1)
