-- Going round a lasso of n states, the last of which is followed by the one at l.
use Rattle.std.proofs.Common.{◌≡◌, ℕ, zero, suc, ◌+◌, ◌-◌, ◌*◌, ◌<◌, ◌≤◌, ◌⊎◌, inl, inr, refl, ap, ◌∙◌, arith}
use Rattle.std.specs.Prelude.{nat_lt, if◌then◌else◌}
use Rattle.std.proofs.lemmas.Bool.{cases_lt}
use Rattle.std.proofs.lemmas.Bool.Decides.{nat_tests}

-- the state at a time
abbrev pub walk : ℕ → ℕ → ℕ → ℕ
walk n l zero = 0
walk n l (suc i) = if nat_lt (walk n l i + 1) n then walk n l i + 1 else l

module _ (n l : ℕ) (inside : l < n) where
  pub walk_stays : (i : ℕ) → walk n l i + 1 < n → walk n l (i + 1) ≡ walk n l i + 1
  walk_stays i h = let e : i + 1 ≡ suc i = omega arith in ap (walk n l) e ∙ grind (arith, nat_tests)

  pub walk_turns : (i : ℕ) → n ≤ walk n l i + 1 → walk n l (i + 1) ≡ l
  walk_turns i h = let e : i + 1 ≡ suc i = omega arith in ap (walk n l) e ∙ grind (arith, nat_tests)

  pub walk_inside : (i : ℕ) → walk n l i < n
  walk_inside zero = omega arith
  walk_inside (suc i) = elim (cases_lt (walk n l i + 1) n) [
    | inl b ↦ let e = walk_stays i b in let s : suc i ≡ i + 1 = omega arith in let t : walk n l (suc i) ≡ walk n l (i + 1) = ap (walk n l) s in omega (arith, t, e)
    | inr b ↦ let e = walk_turns i b in let s : suc i ≡ i + 1 = omega arith in let t : walk n l (suc i) ≡ walk n l (i + 1) = ap (walk n l) s in omega (arith, t, e)
  ]

  pub walk_ahead : (d i : ℕ) → walk n l i + d < n → walk n l (i + d) ≡ walk n l i + d
  walk_ahead zero i h = let e : i + 0 ≡ i = omega arith in omega (arith, ap (walk n l) e)
  walk_ahead (suc d) i h =
      let e : i + suc d ≡ i + d + 1 = omega arith in
      let r : walk n l (i + d) ≡ walk n l i + d = walk_ahead d i (omega arith) in
      let s = walk_stays (i + d) (omega arith) in
      omega (arith, ap (walk n l) e, r, s)

  -- each state of the loop comes again, within two rounds
  pub walk_visits : (i j : ℕ) → l ≤ j → j < n → (k : ℕ) × (i ≤ k) × (k < i + (n + n)) × (walk n l k ≡ j)
  walk_visits i j lo hi =
      let w : walk n l i < n = walk_inside i in
      let d : ℕ = n - 1 - walk n l i in
      let last : walk n l (i + (n - 1 - walk n l i)) ≡ walk n l i + (n - 1 - walk n l i) = walk_ahead (n - 1 - walk n l i) i (omega arith) in
      let turn : walk n l (i + (n - 1 - walk n l i) + 1) ≡ l = walk_turns (i + (n - 1 - walk n l i)) (omega arith) in
      let there : walk n l (i + (n - 1 - walk n l i) + 1 + (j - l)) ≡ walk n l (i + (n - 1 - walk n l i) + 1) + (j - l) = walk_ahead (j - l) (i + (n - 1 - walk n l i) + 1) (omega arith) in
      (i + (n - 1 - walk n l i) + 1 + (j - l), omega arith, omega arith, omega (arith, there, turn))

  -- how often the walk went round
  pub walk_rounds : (i : ℕ) → (c : ℕ) × (i ≡ walk n l i + c * (n - l)) × ((c ≡ 0) ⊎ (l ≤ walk n l i))
  walk_rounds zero = (0, omega arith, inl refl)
  walk_rounds (suc i) =
      let s : suc i ≡ i + 1 = omega arith in
      let t : walk n l (suc i) ≡ walk n l (i + 1) = ap (walk n l) s in
      let r = walk_rounds i in
      let w : walk n l i < n = walk_inside i in
      elim (cases_lt (walk n l i + 1) n) [
        | inl b ↦ let e = walk_stays i b in (r.0, omega (arith, r.1, t, e), elim r.2 [ inl z ↦ inl z | inr le ↦ inr (omega (arith, t, e)) ])
        | inr b ↦ let e = walk_turns i b in (r.0 + 1, omega (arith, r.1, t, e), inr (omega (arith, t, e)))
      ]

  -- before the first turn the state is the time's own
  pub walk_same : (i : ℕ) → i < n → walk n l i ≡ i
  walk_same zero h = refl
  walk_same (suc i) h =
      let r = walk_same i (omega arith) in
      let s = walk_stays i (omega arith) in
      let e : suc i ≡ i + 1 = omega arith in
      let t = ap (walk n l) e in
      omega (arith, r, s, t)
