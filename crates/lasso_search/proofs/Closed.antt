-- A course in which the loop closes is a fair lasso.
use Rattle.std.proofs.Common.{inl, inr, ◌≡◌, ℕ, zero, suc, ◌+◌, ◌-◌, ◌<◌, ◌≤◌, Bool, true, false, length, sym, ◌∙◌, subst, arith}
use Rattle.std.proofs.lemmas.Bool.{cases_Bool, cases_lt, both_ways}
use Rattle.std.proofs.lemmas.List.Elements.{All-from_get_or}
use Rattle.clause_core.specs.Literals.{at, none_lit}
use Rattle.clause_core.specs.Assignments.{Agrees}
use Rattle.clause_core.specs.Systems.{TransitionSystem, NextIs, StepBits, DefinedTrue}
use Rattle.ltl_monitor.specs.Lassos.{IsLasso, IsFair}
use Rattle.lasso_search.specs.Unrolled.{Course, IsCourse, Closes}

-- l is the time at which the loop begins
pub record BeginsAt (c : Course) (n l : ℕ) : Type 0 where
  pub inside : l < n
  pub before : (k : ℕ) → k ≤ l → c.begun k ≡ false
  pub here : c.begun (l + 1) ≡ true

-- there is one
pub begins_somewhere : (c : Course) (n : ℕ) → c.begun 0 ≡ false → c.begun n ≡ true → (l : ℕ) × BeginsAt c n l
begins_somewhere c n not_begun begun = walk n (λ k low. (let e : k ≡ 0 = omega arith in subst (λ i. c.begun i ≡ false) (sym e) not_begun)) (omega arith)
  where
    -- the loop has not begun by n - left, which is before n or at it
    walk : (left : ℕ) → ((k : ℕ) → k ≤ n - left → c.begun k ≡ false) → left ≤ n → (l : ℕ) × BeginsAt c n l
    walk zero low lt = absurd (both_ways (c.begun n) (low n (omega arith)) begun)
    walk (suc left) low lt = elim (cases_Bool (c.begun (n - suc left + 1))) [
      | inl t ↦ (n - suc left, record { inside = omega arith; before = low; here = t })
      | inr f ↦
          walk left
          (λ k h. elim (cases_lt k (n - suc left + 1)) [
            | inl less ↦ low k (omega (arith, less))
            | inr more ↦ (let e : k ≡ n - suc left + 1 = omega (arith, lt, h, more) in subst (λ i. c.begun i ≡ false) (sym e) f)
          ])
          (omega (arith, lt))
    ]

module _ (m : TransitionSystem) (steps n : ℕ) (enough : n ≤ steps) (c : Course) (course : IsCourse m steps c) (closes : Closes m n c)
    (l : ℕ) (begins : BeginsAt c n l) (xs : ℕ → ℕ → Bool) (same : (i : ℕ) → i < n → Agrees m.state_bits (xs i) (c.state i)) where
  -- the step from a state of the lasso
  step_from : (i : ℕ) → i < n → (y : ℕ → Bool) → NextIs m.state_bits (c.step i) y → StepBits m (xs i) y
  step_from i lt y next =
      let low : i < steps = omega (arith, lt, enough) in
      (c.step i, λ v b. course.from i low v b ∙ sym (same i lt v b), next, course.step i low)

  pub next_is : (i : ℕ) → i + 1 < n → NextIs m.state_bits (c.step i) (xs (i + 1))
  next_is i lt b in_bits = course.to i (omega (arith, lt, enough)) b in_bits ∙ sym (same (i + 1) lt b in_bits)

  -- the state after the last is that at which the loop begins
  pub back_is : (i : ℕ) → i + 1 ≡ n → NextIs m.state_bits (c.step i) (xs l)
  back_is i e b in_bits =
      let inside = begins.inside in
      let low : i < steps = omega (arith, e, enough) in
      let there : l < steps = omega (arith, inside, enough) in
      let ended : c.ends (i + 1) ≡ true = subst (λ k. c.ends k ≡ true) (sym e) closes.ends in
      course.to i low b in_bits ∙ sym (course.ends i low ended b in_bits)
      ∙ course.begins l there (begins.before l (omega arith)) begins.here b in_bits ∙ sym (same l inside b in_bits)

  pub is_lasso : IsLasso m xs n l
  is_lasso =
      let inside = begins.inside in
      let e : n - 1 + 1 ≡ n = omega (arith, inside) in record {
        inside = inside;
        first = (c.first, λ v b. course.first v b ∙ sym (same 0 (omega (arith, inside)) v b), course.init);
        steps = λ i lt. step_from i (omega (arith, lt)) (xs (i + 1)) (next_is i lt);
        back = step_from (n - 1) (omega (arith, inside)) (xs l) (back_is (n - 1) e);
      }

  -- a set that was met before a time
  met_before : (j : ℕ) → j < length m.fair → (i : ℕ) → i ≤ steps → c.seen j i ≡ true →
      (k : ℕ) × (k < i) × (c.begun (k + 1) ≡ true) × (c.state k (at m.fair j).var ≡ (at m.fair j).positive)
  met_before j in_sets zero lt t = absurd (both_ways (c.seen j 0) (course.unseen j in_sets) t)
  met_before j in_sets (suc i) lt t =
      let e : suc i ≡ i + 1 = omega arith in
      elim (course.sees i j (omega arith) in_sets (subst (λ k. c.seen j k ≡ true) e t)) [
        | inl before ↦ (let r = met_before j in_sets i (omega (arith, lt)) before in (r.0, omega (arith, r.1), r.2, r.3))
        | inr here ↦ (i, omega arith, here.0, here.1)
      ]

  fair_at : (j : ℕ) → j < length m.fair → (i : ℕ) × (l ≤ i) × (i < n) × DefinedTrue m (xs i) (at m.fair j)
  fair_at j in_sets =
      let r = met_before j in_sets n enough (closes.seen j in_sets) in
      let i = r.0 in
      let low : i < steps = omega (arith, r.1, enough) in
      let late : l ≤ i = elim (cases_lt i l) [
        | inl less ↦ absurd (both_ways (c.begun (i + 1)) (begins.before (i + 1) (omega (arith, less))) r.2)
        | inr more ↦ more
      ] in
      (i, late, r.1, (c.state i, λ v b. sym (same i r.1 v b), course.defined i low, r.3))

  pub is_fair : IsFair m xs n l
  is_fair = All-from_get_or (λ z. (i : ℕ) × (l ≤ i) × (i < n) × DefinedTrue m (xs i) z) m.fair none_lit fair_at
