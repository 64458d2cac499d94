-- What a solver's answers to the query of a length say of fair lassos.
use Rattle.std.proofs.Common.{◌≡◌, ℕ, ◌≤◌, Bool, List, [], ◌∷◌, ◌++◌, length, refl, sym, subst, arith}
use Rattle.std.specs.Prelude.{All, Contains}
use Rattle.std.proofs.lemmas.List.Elements.{All-append, All-map, All-cons, All-weaker, All-contains, All-contains_itself, All-head, All-tail}
use Rattle.clause_core.specs.declared.literal.Lit.{Lit}
use Rattle.clause_core.specs.Literals.{none_lit}
use Rattle.clause_core.specs.Assignments.{assignment_of, ClauseTrue}
use Rattle.clause_core.specs.Systems.{TransitionSystem, IsSystem}
use Rattle.clause_core.specs.Derivations.{Derives}
use Rattle.clause_core.proofs.Sound.{refutes}
use Rattle.sat_core.specs.declared.answer.Answer.{Answer}
use Rattle.sat_core.specs.declared.answer.Answer.TheVariants as solver
use Rattle.sat_core.specs.Queries.{AnswerSays, log_of, units}
use Rattle.ltl_monitor.specs.Lassos.{IsLasso, IsFair}
use Rattle.ltl_monitor.proofs.Clauses.{met_from, all_from}
use Rattle.lasso_search.specs.declared.searched.Searched.{Searched}
use Rattle.lasso_search.specs.declared.searched.Searched.TheVariants as searched
use Rattle.lasso_search.specs.Lassos.{HasNoFairLasso, IsFairLasso, Lasso}
use Rattle.lasso_search.specs.Unrolling.{each, plan_of, begun_literal, ends, seen, steps_at, unrolled, closing}
use Rattle.lasso_search.specs.Unrolled.{IsCourse, Closes, course_of, CanClose}
use Rattle.lasso_search.specs.Searches.{Finds, Tells}
use Rattle.lasso_search.proofs.Each.{All-each, All-each_at}
use Rattle.lasso_search.proofs.Courses.{to_course, from_course}
use Rattle.lasso_search.proofs.Closed.{begins_somewhere, is_lasso, is_fair}
use Rattle.lasso_search.proofs.Read.{is_fair_lasso}
use Rattle.lasso_search.proofs.Looping.{course, is_course, closes}
use Rattle.lasso_search.proofs.Told.{telling, tells, course_like, closes_like}

abbrev IsTrueIn : (ℕ → Bool) → Lit → Type 0
IsTrueIn a l = a l.var ≡ l.positive

-- the clauses are met where the assignment tells a course
pub clauses_to : (m : TransitionSystem) (steps : ℕ) (a : ℕ → Bool) → All (ClauseTrue a) (unrolled m steps) → IsCourse m steps (course_of (plan_of m) a)
unfolding unrolled
clauses_to m steps a h = to_course m steps a (met_from a (steps_at (plan_of m) m steps) h)

pub clauses_from : (m : TransitionSystem) (steps : ℕ) (a : ℕ → Bool) → IsCourse m steps (course_of (plan_of m) a) → All (ClauseTrue a) (unrolled m steps)
unfolding unrolled
clauses_from m steps a h = all_from a (steps_at (plan_of m) m steps) (from_course m steps a h)

module _ (m : TransitionSystem) (n : ℕ) (a : ℕ → Bool) where
  -- what is assumed says that the loop closes
  pub closing_to : All (IsTrueIn a) (closing m n) → Closes m n (course_of (plan_of m) a)
  unfolding closing
  closing_to h =
      let p = plan_of m in
      let sets = each (λ j. seen p j n ∷ []) (length m.fair) in
      let rest = All-tail (IsTrueIn a) (begun_literal p n) (ends p n ∷ sets) h in
      let last = All-tail (IsTrueIn a) (ends p n) sets rest in
      record {
        begun = All-head (IsTrueIn a) (begun_literal p n) (ends p n ∷ sets) h;
        ends = All-head (IsTrueIn a) (ends p n) sets rest;
        seen = λ j lt. All-each_at (IsTrueIn a) (λ j. seen p j n) (length m.fair) none_lit last j lt;
      }

  pub closing_from : Closes m n (course_of (plan_of m) a) → All (IsTrueIn a) (closing m n)
  unfolding closing
  closing_from h =
      let p = plan_of m in
      let sets = each (λ j. seen p j n ∷ []) (length m.fair) in
      All-cons (IsTrueIn a) (begun_literal p n) (ends p n ∷ sets) h.begun
      (All-cons (IsTrueIn a) (ends p n) sets h.ends (All-each (IsTrueIn a) (λ j. seen p j n) (length m.fair) none_lit h.seen))

module _ (m : TransitionSystem) (steps n : ℕ) (keeps : IsSystem m) (enough : n ≤ steps) where
  -- a fair lasso gives values that meet the clauses and close the loop
  pub can_close : (xs : ℕ → ℕ → Bool) (l : ℕ) → IsLasso m xs n l → IsFair m xs n l → CanClose m steps n
  can_close xs l lasso fair =
      let c = course m n keeps xs l lasso fair in
      let is = is_course m n keeps xs l lasso fair steps in
      let a = telling m keeps c in
      let alike = tells m keeps c steps is in (
        a,
        clauses_from m steps a (course_like m keeps steps (course_of (plan_of m) a) c alike is),
        closing_from m n a (closes_like m keeps steps (course_of (plan_of m) a) c alike n (closes m n keeps xs l lasso fair)),
      )

  -- and values that do so tell one
  pub has_lasso : CanClose m steps n → (xs : ℕ → ℕ → Bool) × (l : ℕ) × IsLasso m xs n l × IsFair m xs n l
  has_lasso h =
      let a = h.0 in
      let c = course_of (plan_of m) a in
      let is = clauses_to m steps a h.1 in
      let ended = closing_to m n a h.2 in
      let begins = begins_somewhere c n is.not_begun ended.begun in
      let l = begins.0 in (
        c.state,
        l,
        is_lasso m steps n enough c is ended l begins.1 c.state (λ i lt v b. refl),
        is_fair m steps n enough c is ended l begins.1 c.state (λ i lt v b. refl),
      )

  -- where a part of what is assumed refutes the clauses, there is no fair lasso
  none_there : (vars : ℕ) (core : List Lit) (log : List (List Lit)) → All (Contains (closing m n)) core → Derives vars (unrolled m steps ++ units core) log → HasNoFairLasso m n
  none_there vars core log part derives =
      record {
        never = λ xs l lasso fair.
            (let s = can_close xs l lasso fair in
            let a = s.0 in
            let core_true : All (IsTrueIn a) core = All-weaker (Contains (closing m n)) (IsTrueIn a) (λ q here. All-contains (IsTrueIn a) (closing m n) q s.2 here) core part in
            refutes vars (unrolled m steps ++ units core) log derives a
            (All-append (ClauseTrue a) (unrolled m steps) (units core) s.1
            (All-map (ClauseTrue a) (λ q. q ∷ []) core (All-weaker (IsTrueIn a) (λ q. ClauseTrue a (q ∷ [])) (λ q t. (0, q, omega arith, refl, t)) core core_true))));
      }

  pub finds : (vars : ℕ) (given learned : List (List Lit)) (assumptions : List Lit) (answer : Answer) (f : Searched) (budget : ℕ) (over : Bool) →
      given ≡ unrolled m steps → assumptions ≡ closing m n →
      AnswerSays vars given learned assumptions budget over answer → Tells (plan_of m) n answer f → Finds m n budget over f
  finds vars given learned assumptions (solver.Sat model) (searched.Found r) budget over eg ea said told =
      let a = assignment_of model in
      let met : All (ClauseTrue a) (unrolled m steps) = subst (λ (cs : List (List Lit)). All (ClauseTrue a) cs) eg said.1.0 in
      let assumed : All (IsTrueIn a) (closing m n) = subst (λ (ls : List Lit). All (IsTrueIn a) ls) ea said.1.1 in
      is_fair_lasso m keeps steps n enough a (clauses_to m steps a met) (closing_to m n a assumed) r told.0 told.1
  finds vars given learned assumptions (solver.Sat model) searched.None budget over eg ea said told = absurd told
  finds vars given learned assumptions (solver.Sat model) (searched.Spent drawn b) budget over eg ea said told = absurd told
  finds vars given learned assumptions (solver.Unsat core) f budget over eg ea said told =
      let part : All (Contains (closing m n)) core.items = subst (λ (ls : List Lit). All (Contains ls) core.items) ea said.0 in
      let derives : Derives vars (unrolled m steps ++ units core.items) (log_of learned) = subst (λ (cs : List (List Lit)). Derives vars (cs ++ units core.items) (log_of learned)) eg said.1 in
      subst (Finds m n budget over) (sym told) (none_there vars core.items (log_of learned) part derives)
  finds vars given learned assumptions (solver.Spent drawn b) f budget over eg ea said told = subst (Finds m n budget over) (sym told) said

  -- a model of the clauses under all that is assumed for the length, and more, tells a fair lasso
  pub finds_along : (vars : ℕ) (given learned : List (List Lit)) (assumptions : List Lit) (answer : Answer) (r : Lasso) (budget : ℕ) (over : Bool) →
      given ≡ unrolled m steps → ((x : Lit) → Contains (closing m n) x → Contains assumptions x) →
      AnswerSays vars given learned assumptions budget over answer → Tells (plan_of m) n answer (searched.Found r) → IsFairLasso m n r
  finds_along vars given learned assumptions (solver.Sat model) r budget over eg part said told =
      let a = assignment_of model in
      let met : All (ClauseTrue a) (unrolled m steps) = subst (λ (cs : List (List Lit)). All (ClauseTrue a) cs) eg said.1.0 in
      let each_in : All (Contains assumptions) (closing m n) =
      All-weaker (Contains (closing m n)) (Contains assumptions) (λ q here. part q here) (closing m n) (All-contains_itself (closing m n)) in
      let assumed : All (IsTrueIn a) (closing m n) =
      All-weaker (Contains assumptions) (IsTrueIn a) (λ q here. All-contains (IsTrueIn a) assumptions q said.1.1 here) (closing m n) each_in in
      is_fair_lasso m keeps steps n enough a (clauses_to m steps a met) (closing_to m n a assumed) r told.0 told.1
  finds_along vars given learned assumptions (solver.Unsat core) r budget over eg part said told = absurd (let never : ⊥ = cc in never)
  finds_along vars given learned assumptions (solver.Spent drawn b) r budget over eg part said told = absurd (let never : ⊥ = cc in never)
