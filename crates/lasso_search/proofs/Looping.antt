-- A fair lasso is a course of any number of steps in which the loop closes: it goes on round its loop.
use Rattle.std.proofs.Common.{inl, inr, ◌≡◌, ◌⊎◌, ℕ, zero, suc, ◌+◌, ◌<◌, ◌≤◌, Bool, true, false, ◌&&◌, ◌||◌, length, refl, sym, ap, ◌∙◌, subst, arith}
use Rattle.std.specs.Prelude.{nat_lt, eqb}
use Rattle.std.proofs.lemmas.Bool.{cases_Bool, cases_lt, and_parts, and_from, or_left, or_right, eqb-true, eq-eqb}
use Rattle.std.proofs.lemmas.Bool.Decides.{nat_tests}
use Rattle.ltl_meaning.proofs.Walk.{walk_same}
use Rattle.clause_core.specs.declared.literal.Lit.{Lit}
use Rattle.clause_core.specs.Literals.{at, none_lit}
use Rattle.clause_core.specs.Assignments.{Agrees, ClauseTrue}
use Rattle.clause_core.specs.Systems.{TransitionSystem, IsSystem}
use Rattle.std.specs.Prelude.{All}
use Rattle.ltl_monitor.specs.States.{value}
use Rattle.ltl_monitor.specs.Lassos.{IsLasso, IsFair, state_at}
use Rattle.ltl_monitor.proofs.BitLassos.{state_walk, state_turns}
use Rattle.ltl_monitor.proofs.Clauses.{literal_from}
use Rattle.lasso_search.specs.Unrolled.{Course, IsCourse, Closes}
use Rattle.lasso_search.proofs.Courses.{literal_true}
use Rattle.lasso_search.proofs.Stretched.{round, around}

after_test : (l i : ℕ) → nat_lt l i ≡ true → l < i
after_test l i h = grind (arith, nat_tests)

before_test : (l i : ℕ) → nat_lt l i ≡ false → i ≤ l
before_test l i h = grind (arith, nat_tests)

test_after : (l i : ℕ) → l < i → nat_lt l i ≡ true
test_after l i h = grind (arith, nat_tests)

test_before : (l i : ℕ) → i ≤ l → nat_lt l i ≡ false
test_before l i h = grind (arith, nat_tests)

module _ (m : TransitionSystem) (n : ℕ) (keeps : IsSystem m) (xs : ℕ → ℕ → Bool) (l : ℕ) (lasso : IsLasso m xs n l) (fair : IsFair m xs n l) where
  abbrev pub at_time : ℕ → ℕ → Bool
  at_time i = round m xs n l lasso i

  -- what is defined of the state at a time
  pub defined : ℕ → ℕ → Bool
  defined i = (keeps.gives.extends (at_time i)).0

  defined_agrees : (i : ℕ) → Agrees m.state_bits (defined i) (at_time i)
  unfolding defined
  defined_agrees i = (keeps.gives.extends (at_time i)).1

  defined_met : (i : ℕ) → All (ClauseTrue (defined i)) m.defs
  unfolding defined
  defined_met i = (keeps.gives.extends (at_time i)).2

  -- set j was met in the loop before a time
  pub seen : ℕ → ℕ → Bool
  seen j zero = false
  seen j (suc i) = seen j i || (nat_lt l (i + 1) && value (defined i) (at m.fair j))

  pub course : Course
  course = record {
    first = lasso.first.0;
    state = defined;
    step = λ i. (around m xs n l lasso i).0;
    start = xs l;
    begun = λ i. nat_lt l i;
    ends = λ i. eqb i n;
    seen = seen;
  }

  -- before the loop is left for the first time, the state at a time is that of its number
  at_own : (i : ℕ) → i < n → state_at n l i ≡ i
  at_own i lt = state_walk n l i ∙ walk_same n l lasso.inside i lt

  at_end : (i : ℕ) → i + 1 ≡ n → state_at n l (i + 1) ≡ l
  at_end i e = (let k = at_own i (omega arith) in state_turns n l lasso.inside i (omega (arith, k, e)))

  begin_here : (i : ℕ) → nat_lt l i ≡ false → nat_lt l (i + 1) ≡ true → Agrees m.state_bits (xs l) (defined i)
  begin_here i before after v b =
      let low : i ≤ l = before_test l i before in
      let high : l < i + 1 = after_test l (i + 1) after in
      let e : l ≡ i = omega arith in
      let inside = lasso.inside in
      ap (λ k. xs k v) (e ∙ sym (at_own i (omega (arith, inside, e)))) ∙ sym (defined_agrees i v b)

  end_here : (i : ℕ) → eqb (i + 1) n ≡ true → Agrees m.state_bits (xs l) (defined (i + 1))
  end_here i t v b =
      let e : i + 1 ≡ n = eqb-true (i + 1) n t in
      ap (λ k. xs k v) (sym (at_end i e)) ∙ sym (defined_agrees (i + 1) v b)

  see_here : (i j : ℕ) → seen j (suc i) ≡ true → (seen j i ≡ true) ⊎ ((nat_lt l (i + 1) ≡ true) × (defined i (at m.fair j).var ≡ (at m.fair j).positive))
  unfolding seen
  see_here i j t = elim (cases_Bool (seen j i)) [
    | inl before ↦ inl before
    | inr not_before ↦
        (let here : (nat_lt l (i + 1) && value (defined i) (at m.fair j)) ≡ true = rest (seen j i) _ not_before t in
        let k = and_parts (nat_lt l (i + 1)) (value (defined i) (at m.fair j)) here in
        inr (k.0, literal_from (defined i) (at m.fair j) k.1))
  ]
    where
      rest : (x y : Bool) → x ≡ false → (x || y) ≡ true → y ≡ true
      rest true y e h = absurd cc
      rest false y e h = h

  pub is_course : (steps : ℕ) → IsCourse m steps course
  unfolding course seen
  is_course steps = record {
    init = lasso.first.2;
    first = λ v b. lasso.first.1 v b ∙ sym (defined_agrees 0 v b);
    step = λ i lt. (around m xs n l lasso i).3;
    from = λ i lt v b. (around m xs n l lasso i).1 v b ∙ sym (defined_agrees i v b);
    to = λ i lt v b. (around m xs n l lasso i).2 v b ∙ sym (defined_agrees (i + 1) v b);
    defined = λ i lt. defined_met i;
    not_begun = test_before l 0 (omega arith);
    begins = λ i lt before after. begin_here i before after;
    ends = λ i lt t. end_here i t;
    unseen = λ j lt. refl;
    sees = λ i j lt in_sets t.
        (let e : i + 1 ≡ suc i = omega arith in see_here i j (subst (λ k. seen j k ≡ true) e t));
  }

  -- a set that was met stays so
  seen_later : (j i k : ℕ) → i ≤ k → seen j i ≡ true → seen j k ≡ true
  unfolding seen
  seen_later j i zero lt t = (let e : i ≡ 0 = omega arith in subst (λ x. seen j x ≡ true) e t)
  seen_later j i (suc k) lt t = elim (cases_lt i (suc k)) [
    | inl less ↦ or_left (seen j k) (nat_lt l (k + 1) && value (defined k) (at m.fair j)) (seen_later j i k (omega arith) t)
    | inr more ↦ (let e : i ≡ suc k = omega arith in subst (λ x. seen j x ≡ true) e t)
  ]

  seen_at_end : (j : ℕ) → j < length m.fair → seen j n ≡ true
  unfolding seen
  seen_at_end j lt =
      let f = fair j none_lit lt in
      let i = f.0 in
      let d = f.3 in
      let q : Lit = at m.fair j in
      let here : (v : ℕ) → at_time i v ≡ xs i v = λ v. ap (λ k. xs k v) (at_own i f.2) in
      let same : Agrees m.state_bits d.0 (defined i) = λ v b. d.1 v b ∙ sym (here v) ∙ sym (defined_agrees i v b) in
      let one = (keeps.gives.one_way d.0 (defined i) same d.2 (defined_met i)).0 j none_lit lt in
      let holds : value (defined i) q ≡ true = literal_true (defined i) q (sym one ∙ d.3) in
      let now : seen j (suc i) ≡ true =
      or_right (seen j i) (nat_lt l (i + 1) && value (defined i) q)
      (and_from (nat_lt l (i + 1)) (value (defined i) q) (test_after l (i + 1) (let k = f.1 in omega (arith, k))) holds) in
      let k = f.2 in
      seen_later j (suc i) n (omega (arith, k)) now

  pub closes : Closes m n course
  unfolding course
  closes = record { begun = test_after l n lasso.inside; ends = eq-eqb n n refl; seen = seen_at_end }
