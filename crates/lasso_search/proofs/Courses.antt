-- What an assignment says that makes the clauses of an unrolling true.
use Rattle.std.proofs.Common.{inl, inr, ◌≡◌, ◌⊎◌, ℕ, ◌+◌, ◌-◌, ◌<◌, Bool, true, false, not, ◌&&◌, ◌||◌, List, [], ◌∷◌, ◌++◌, length, refl, sym, ap, ◌∙◌, arith}
use Rattle.clause_core.specs.declared.literal.Lit.{Lit}
use Rattle.clause_core.specs.Literals.{negate, at}
use Rattle.clause_core.specs.Systems.{TransitionSystem}
use Rattle.ltl_monitor.specs.States.{value}
use Rattle.ltl_monitor.proofs.Clauses.{all, Met, met_from, met_parts, met_join, all_from, all_renamed, literal_from, same_refl}
use Rattle.lasso_search.specs.declared.plan.Plan.{Plan}
use Rattle.lasso_search.specs.declared.plan.Turn.{Turn}
use Rattle.lasso_search.specs.Unrolling.{each, plan_of, spot, place, moved, all_moved, begun_literal, ends, seen, beginning, ending, seeing, unseen, opening, moment, steps_at}
use Rattle.lasso_search.specs.Unrolled.{Course, IsCourse, course_of}
use Rattle.lasso_search.proofs.Each.{met_each_to, met_each_from}
use Rattle.lasso_search.proofs.Places.{first_low, step_low, step_next}

-- two clauses by which x and y are the same where s is false and t true
begins_says : (s t x y : Bool) → ((s || (not t || (x || (not y || false)))) && ((s || (not t || (not x || (y || false)))) && true)) ≡ true → s ≡ false → t ≡ true → x ≡ y
begins_says true t x y h e f = absurd cc
begins_says false false x y h e f = absurd cc
begins_says false true true true h e f = refl
begins_says false true true false h e f = absurd cc
begins_says false true false true h e f = absurd cc
begins_says false true false false h e f = refl

begins_said : (s t x y : Bool) → (s ≡ false → t ≡ true → x ≡ y) → ((s || (not t || (x || (not y || false)))) && ((s || (not t || (not x || (y || false)))) && true)) ≡ true
begins_said true t x y h = refl
begins_said false false x y h = refl
begins_said false true true true h = refl
begins_said false true true false h = let e = h refl refl in absurd cc
begins_said false true false true h = let e = h refl refl in absurd cc
begins_said false true false false h = refl

-- two clauses by which x and y are the same where s is true
ends_says : (s x y : Bool) → ((not s || (x || (not y || false))) && ((not s || (not x || (y || false))) && true)) ≡ true → s ≡ true → x ≡ y
ends_says false x y h e = absurd cc
ends_says true true true h e = refl
ends_says true true false h e = absurd cc
ends_says true false true h e = absurd cc
ends_says true false false h e = refl

ends_said : (s x y : Bool) → (s ≡ true → x ≡ y) → ((not s || (x || (not y || false))) && ((not s || (not x || (y || false))) && true)) ≡ true
ends_said false x y h = refl
ends_said true true true h = refl
ends_said true true false h = let e = h refl in absurd cc
ends_said true false true h = let e = h refl in absurd cc
ends_said true false false h = refl

-- two clauses by which where s is true u is, or x and y are
sees_says : (s u x y : Bool) → ((not s || (u || (x || false))) && ((not s || (u || (y || false))) && true)) ≡ true → s ≡ true →
    (u ≡ true) ⊎ ((x ≡ true) × (y ≡ true))
sees_says false u x y h e = absurd cc
sees_says true true x y h e = inl refl
sees_says true false true true h e = inr (refl, refl)
sees_says true false true false h e = absurd cc
sees_says true false false y h e = absurd cc

sees_said : (s u x y : Bool) → (s ≡ true → (u ≡ true) ⊎ ((x ≡ true) × (y ≡ true))) →
    ((not s || (u || (x || false))) && ((not s || (u || (y || false))) && true)) ≡ true
sees_said false u x y h = refl
sees_said true true x y h = refl
sees_said true false true true h = refl
sees_said true false true false h = elim (h refl) [
  | inl e ↦ absurd cc
  | inr e ↦ (let f = e.1 in absurd cc)
]
sees_said true false false y h = elim (h refl) [
  | inl e ↦ absurd cc
  | inr e ↦ (let f = e.0 in absurd cc)
]

not_true : (b : Bool) → ((not b || false) && true) ≡ true → b ≡ false
not_true true h = absurd cc
not_true false h = refl

true_not : (b : Bool) → b ≡ false → ((not b || false) && true) ≡ true
true_not true h = absurd cc
true_not false h = refl

pub literal_true : (v : ℕ → Bool) (q : Lit) → v q.var ≡ q.positive → value v q ≡ true
literal_true v q e = same_refl q.positive (v q.var) (sym e)

module _ (m : TransitionSystem) (steps : ℕ) (a : ℕ → Bool) where
  abbrev pub p : Plan
  p = plan_of m

  abbrev pub course : Course
  course = course_of p a

  -- the clauses of each kind
  abbrev pub not_first : List (List Lit)
  not_first = (negate (begun_literal p 0) ∷ []) ∷ []

  abbrev pub unmet : List (List Lit)
  unmet = each (unseen p) (length m.fair)

  abbrev pub step_clauses : ℕ → List (List Lit)
  step_clauses i = all_moved p (Turn.Step i) m.step

  abbrev pub def_clauses : ℕ → List (List Lit)
  def_clauses i = all_moved p (Turn.State i) m.defs

  abbrev pub beginnings : ℕ → List (List Lit)
  beginnings i = each (beginning p i) p.bits

  abbrev pub endings : ℕ → List (List Lit)
  endings i = each (ending p (i + 1)) p.bits

  abbrev pub sightings : ℕ → List (List Lit)
  sightings i = each (λ j. seeing p (at m.fair j) i j) (length m.fair)

  -- a copy of clauses is met where they are
  copied : (t : Turn) (cs : List (List Lit)) → all a (all_moved p t cs) ≡ all (λ v. a (place p t v)) cs
  copied t cs = all_renamed a (place p t) cs

  -- copies share the state bits
  first_shared : (v : ℕ) → v < m.state_bits → course.first v ≡ course.state 0 v
  first_shared v lt = ap a (first_low p v lt)

  from_shared : (i v : ℕ) → v < m.state_bits → course.step i v ≡ course.state i v
  from_shared i v lt = ap a (step_low p i v lt)

  to_shared : (i b : ℕ) → b < m.state_bits → course.step i (m.state_bits + b) ≡ course.state (i + 1) b
  to_shared i b lt =
      let e : m.state_bits + b - m.state_bits ≡ b = omega arith in
      ap a (step_next p i (m.state_bits + b) (omega arith) (omega arith)) ∙ ap (λ k. a (spot p k (i + 1))) e

  pub to_course : Met a (steps_at p m steps) → IsCourse m steps course
  to_course h =
      let init = all_moved p Turn.First m.init in
      let both = met_parts a (opening p m) (each (moment p m) steps) h in
      let o2 = met_parts a (init ++ not_first) unmet both.0 in
      let o1 = met_parts a init not_first o2.0 in
      let now : (i : ℕ) → i < steps → Met a (moment p m i) = met_each_to a (moment p m) steps both.1 in
      let q4 : (i : ℕ) → i < steps → Met a (step_clauses i ++ def_clauses i ++ beginnings i ++ endings i) × Met a (sightings i) =
      λ i lt. met_parts a (step_clauses i ++ def_clauses i ++ beginnings i ++ endings i) (sightings i) (now i lt) in
      let q3 : (i : ℕ) → i < steps → Met a (step_clauses i ++ def_clauses i ++ beginnings i) × Met a (endings i) =
      λ i lt. met_parts a (step_clauses i ++ def_clauses i ++ beginnings i) (endings i) (q4 i lt).0 in
      let q2 : (i : ℕ) → i < steps → Met a (step_clauses i ++ def_clauses i) × Met a (beginnings i) =
      λ i lt. met_parts a (step_clauses i ++ def_clauses i) (beginnings i) (q3 i lt).0 in
      let q1 : (i : ℕ) → i < steps → Met a (step_clauses i) × Met a (def_clauses i) =
      λ i lt. met_parts a (step_clauses i) (def_clauses i) (q2 i lt).0 in
      record {
        init = all_from course.first m.init (sym (copied Turn.First m.init) ∙ o1.0);
        first = first_shared;
        step = λ i lt. all_from (course.step i) m.step (sym (copied (Turn.Step i) m.step) ∙ (q1 i lt).0);
        from = λ i lt. from_shared i;
        to = λ i lt. to_shared i;
        defined = λ i lt. all_from (course.state i) m.defs (sym (copied (Turn.State i) m.defs) ∙ (q1 i lt).1);
        not_begun = not_true (a (begun_literal p 0).var) o1.1;
        begins = λ i lt before after b in_bits.
            begins_says (a (begun_literal p i).var) (a (begun_literal p (i + 1)).var) (a b) (a (spot p b i)) (met_each_to a (beginning p i) p.bits (q2 i lt).1 b in_bits) before after;
        ends = λ i lt t b in_bits.
            ends_says (a (ends p (i + 1)).var) (a b) (a (spot p b (i + 1))) (met_each_to a (ending p (i + 1)) p.bits (q3 i lt).1 b in_bits) t;
        unseen = λ j lt. not_true (a (seen p j 0).var) (met_each_to a (unseen p) (length m.fair) o2.1 j lt);
        sees = λ i j lt in_sets t.
            (let q : Lit = at m.fair j in
            elim (sees_says (a (seen p j (i + 1)).var) (a (seen p j i).var) (a (begun_literal p (i + 1)).var) (value a (moved p (Turn.State i) q))
            (met_each_to a (λ j. seeing p (at m.fair j) i j) (length m.fair) (q4 i lt).1 j in_sets) t) [
              | inl before ↦ inl before
              | inr here ↦ inr (here.0, literal_from (course.state i) q here.1)
            ]);
      }

  pub from_course : IsCourse m steps course → Met a (steps_at p m steps)
  from_course h =
      let init = all_moved p Turn.First m.init in
      let steps_met : (i : ℕ) → i < steps → Met a (step_clauses i) = λ i lt. copied (Turn.Step i) m.step ∙ met_from (course.step i) m.step (h.step i lt) in
      let defs_met : (i : ℕ) → i < steps → Met a (def_clauses i) = λ i lt. copied (Turn.State i) m.defs ∙ met_from (course.state i) m.defs (h.defined i lt) in
      let beginnings_met : (i : ℕ) → i < steps → Met a (beginnings i) = λ i lt. met_each_from a (beginning p i) p.bits
      (λ b in_bits. begins_said (a (begun_literal p i).var) (a (begun_literal p (i + 1)).var) (a b) (a (spot p b i)) (λ before after. h.begins i lt before after b in_bits)) in
      let endings_met : (i : ℕ) → i < steps → Met a (endings i) = λ i lt. met_each_from a (ending p (i + 1)) p.bits
      (λ b in_bits. ends_said (a (ends p (i + 1)).var) (a b) (a (spot p b (i + 1))) (λ t. h.ends i lt t b in_bits)) in
      let sightings_met : (i : ℕ) → i < steps → Met a (sightings i) = λ i lt. met_each_from a (λ j. seeing p (at m.fair j) i j) (length m.fair)
      (λ j in_sets. (let q : Lit = at m.fair j in
      sees_said (a (seen p j (i + 1)).var) (a (seen p j i).var) (a (begun_literal p (i + 1)).var) (value a (moved p (Turn.State i) q))
      (λ t. elim (h.sees i j lt in_sets t) [
        | inl before ↦ inl before
        | inr here ↦ inr (here.0, literal_true (course.state i) q here.1)
      ]))) in
      let now : (i : ℕ) → i < steps → Met a (moment p m i) = λ i lt.
      met_join a (step_clauses i ++ def_clauses i ++ beginnings i ++ endings i) (sightings i)
      (met_join a (step_clauses i ++ def_clauses i ++ beginnings i) (endings i)
      (met_join a (step_clauses i ++ def_clauses i) (beginnings i)
      (met_join a (step_clauses i) (def_clauses i) (steps_met i lt) (defs_met i lt)) (beginnings_met i lt)) (endings_met i lt)) (sightings_met i lt) in
      met_join a (opening p m) (each (moment p m) steps)
      (met_join a (init ++ not_first) unmet
      (met_join a init not_first (copied Turn.First m.init ∙ met_from course.first m.init h.init) (true_not (a (begun_literal p 0).var) h.not_begun))
      (met_each_from a (unseen p) (length m.fair) (λ j lt. true_not (a (seen p j 0).var) (h.unseen j lt))))
      (met_each_from a (moment p m) steps now)
