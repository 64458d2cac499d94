-- A lasso goes on for ever, and is a run without the step back.
use Rattle.std.proofs.Common.{◌≡◌, ◌∙◌, ◌⊎◌, inl, inr, ℕ, suc, ◌+◌, ◌-◌, ◌*◌, ◌<◌, ◌≤◌, List, [], length, take, sym, ap, subst, arith}
use Rattle.std.specs.Prelude.{◌%◌, ◌/◌, nat_lt, if◌then◌else◌}
use Rattle.std.proofs.lemmas.Bool.{cases_lt}
use Rattle.std.proofs.lemmas.Bool.Decides.{nat_tests}
use Rattle.std.proofs.lemmas.Nat.{mod-mul-add}
use Rattle.std.proofs.Math.Nat.{mod-add-div'}
use Rattle.std.proofs.lemmas.List.{get_or-take, length-take-le}
use Rattle.smv_tree.specs.declared.tree.Program.{Program}
use Rattle.smv_value.specs.declared.value.Value.{Value}
use Rattle.smv_meaning.specs.Lassos.{Lasso, IsLasso, place_at}
use Rattle.smv_meaning.specs.Runs.{IsRun, IsStep, at_time}

-- numbers that go round from n to l
module _ (n l : ℕ) (inside : l < n) where
  abbrev round : ℕ → ℕ
  round t = if nat_lt t n then t else l + (t - l) % (n - l)

  before : (t : ℕ) → t < n → round t ≡ t
  before t h = grind (arith, nat_tests)

  behind : (t : ℕ) → n ≤ t → round t ≡ l + (t - l) % (n - l)
  behind t h = grind (arith, nat_tests)

  remainder : (t q r : ℕ) → t ≡ q * (n - l) + r → r < n - l → t % (n - l) ≡ r
  remainder t q r e h = ap (λ m. m % (n - l)) e ∙ mod-mul-add q (n - l) r h

  -- from one time to the next the place is the next one, or the last place is left for l
  pub goes_round : (t : ℕ) → ((round t + 1 < n) × (round (t + 1) ≡ round t + 1)) ⊎ ((round t ≡ n - 1) × (round (t + 1) ≡ l))
  goes_round t = elim (cases_lt (t + 1) n) [
    | inl b ↦
        let here = before t (omega arith) in
        let there = before (t + 1) b in
        inl (omega (arith, here), omega (arith, here, there))
    | inr b ↦ elim (cases_lt t n) [
      | inl c ↦
          let here = before t c in
          let there = behind (t + 1) b in
          let none : (t + 1 - l) % (n - l) ≡ 0 = remainder (t + 1 - l) 1 0 (omega arith) (omega arith) in
          inr (omega (arith, here), omega (arith, there, none))
      | inr c ↦
          let here = behind t c in
          let there = behind (t + 1) b in
          let r : ℕ = (t - l) % (n - l) in
          let q : ℕ = (t - l) / (n - l) in
          let whole : (t - l) % (n - l) + (t - l) / (n - l) * (n - l) ≡ t - l = mod-add-div' (t - l) (n - l) in
          elim (cases_lt ((t - l) % (n - l) + 1) (n - l)) [
            | inl less ↦
                let more : (t + 1 - l) % (n - l) ≡ (t - l) % (n - l) + 1 = remainder (t + 1 - l) q (r + 1) (omega (arith, whole)) less in
                inl (omega (arith, here, less), omega (arith, here, there, more))
            | inr full ↦
                let some : 0 < n - l = omega arith in
                let turned : t + 1 - l ≡ suc q * (n - l) + 0 = omega (arith, whole, full) in
                let none : (t + 1 - l) % (n - l) ≡ 0 = remainder (t + 1 - l) (suc q) 0 turned some in
                inr (omega (arith, here, full), omega (arith, there, none))
          ]
    ]
  ]

module _ (p : Program) (w : Lasso) (is : IsLasso p w) where
  abbrev From : ℕ → ℕ → Type 0
  From i j = IsStep p (at_time w.states i) (at_time w.inputs i) (at_time w.states j)

  pub goes_on : (t : ℕ) → From (place_at w t) (place_at w (t + 1))
  goes_on t = elim (goes_round (length w.states) w.start is.inside t) [
    | inl a ↦ subst (λ j. From (place_at w t) j) (sym a.1) (is.steps (place_at w t) a.0)
    | inr a ↦ subst (λ j. From (place_at w t) j) (sym a.1) (subst (λ i. From i w.start) (sym a.0) is.back)
  ]

  pub without_back : IsRun p w.states (take (length w.states - 1) w.inputs)
  without_back =
      let m : ℕ = length w.states - 1 in
      let long : length (take (length w.states - 1) w.inputs) ≡ length w.states - 1 = length-take-le (length w.states - 1) w.inputs (omega (arith, is.long)) in
      record {
        long = omega (arith, long, is.inside);
        first = is.first;
        steps = λ i h.
            let lt : i < length w.states - 1 = omega (arith, long) in
            subst (λ (u : List Value). IsStep p (at_time w.states i) u (at_time w.states (i + 1))) (sym (get_or-take (length w.states - 1) w.inputs i [] lt)) (is.steps i (omega arith));
      }
