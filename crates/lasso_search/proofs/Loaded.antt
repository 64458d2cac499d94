-- A solver that was given one step more, and another.
use Rattle.std.proofs.Common.{◌≡◌, ℕ, suc, ◌+◌, ◌<◌, ◌≤◌, List, [], ◌++◌, Option, Some, sym, ap, ◌∙◌, subst, arith, append_assoc, append-nil}
use Rattle.std.specs.Prelude.{All, Contains}
use Rattle.std.proofs.lemmas.List.Elements.{All-nil, All-contains_itself}
use Rattle.clause_core.specs.declared.literal.Lit.{Lit}
use Rattle.clause_core.specs.Literals.{Within}
use Rattle.clause_core.specs.Systems.{TransitionSystem, IsSystem}
use Rattle.sat_core.specs.Queries.{State}
use Rattle.lasso_search.specs.declared.plan.Plan.{Plan}
use Rattle.lasso_search.specs.declared.loading.Engine.{Engine}
use Rattle.lasso_search.specs.Unrolling.{each, plan_of, opening, moment, closing_at, unrolled, closing, vars_at, vars_of}
use Rattle.lasso_search.specs.Searches.{IsLoaded, known_of}
use Rattle.lasso_search.proofs.Places.{vars_more}
use Rattle.lasso_search.proofs.WithinVars.{opening_in, moment_in, closing_in}

pub vars_grow : (m : TransitionSystem) (few many : ℕ) → few ≤ many → vars_of m few ≤ vars_of m many
unfolding vars_of
vars_grow m few many lt = vars_more (plan_of m) few many lt

pub none_unrolled : (m : TransitionSystem) → opening (plan_of m) m ≡ unrolled m 0
unfolding unrolled
none_unrolled m = sym (append-nil (opening (plan_of m) m))

pub more_unrolled : (m : TransitionSystem) (steps : ℕ) → unrolled m steps ++ moment (plan_of m) m steps ≡ unrolled m (steps + 1)
unfolding unrolled
more_unrolled m steps =
    let p = plan_of m in
    let e : suc steps ≡ steps + 1 = omega arith in
    append_assoc (opening p m) (each (moment p m) steps) (moment p m steps) ∙ ap (λ k. opening p m ++ each (moment p m) k) e

pub vars_is : (m : TransitionSystem) (p : Plan) (steps : ℕ) → p ≡ plan_of m → vars_at p steps ≡ vars_of m steps
unfolding vars_of
vars_is m p steps plan = ap (λ (q : Plan). vars_at q steps) plan

-- where there are variables for so many steps
module _ (m : TransitionSystem) (keeps : IsSystem m) (steps vars : ℕ) (fits : vars_of m steps ≤ vars) (p : Plan) (plan : p ≡ plan_of m) where
  pub first_within : (cs : List (List Lit)) → cs ≡ opening p m → All (Within vars) cs
  unfolding vars_of
  first_within cs is =
      let e : opening (plan_of m) m ≡ cs = sym (is ∙ ap (λ (q : Plan). opening q m) plan) in
      subst (λ (xs : List (List Lit)). All (Within vars) xs) e (opening_in m keeps steps vars fits)

  pub step_within : (i : ℕ) (cs : List (List Lit)) → i < steps → cs ≡ moment p m i → All (Within vars) cs
  unfolding vars_of
  step_within i cs lt is =
      let e : moment (plan_of m) m i ≡ cs = sym (is ∙ ap (λ (q : Plan). moment q m i) plan) in
      subst (λ (xs : List (List Lit)). All (Within vars) xs) e (moment_in m keeps steps vars fits i lt)

  pub closing_within : (n : ℕ) (ls : List Lit) → n ≤ steps → ls ≡ closing_at p n → Within vars ls
  unfolding vars_of
  closing_within n ls lt is =
      let e : closing_at (plan_of m) n ≡ ls = sym (is ∙ ap (λ (q : Plan). closing_at q n) plan) in
      subst (λ (xs : List Lit). Within vars xs) e (closing_in m keeps steps vars fits n lt)

pub closing_is : (m : TransitionSystem) (n : ℕ) (p : Plan) (ls : List Lit) → p ≡ plan_of m → ls ≡ closing_at p n → ls ≡ closing m n
unfolding closing
closing_is m n p ls plan is = is ∙ ap (λ (q : Plan). closing_at q n) plan

-- a new solver that was given the clauses of the initial state
pub first_loaded : (m : TransitionSystem) (p : Plan) (room : ℕ) (cs : List (List Lit)) (s t : State) → p ≡ plan_of m → cs ≡ opening p m →
    s ≡ record { vars = vars_at p room; given = []; learned = [] } → t ≡ record s { given = s.given ++ cs } → IsLoaded m (record { solver = t; steps = 0 })
first_loaded m p room cs s t plan is new done =
    let vars : t.vars ≡ vars_of m room = ap (λ (x : State). x.vars) done ∙ ap (λ (x : State). x.vars) new ∙ vars_is m p room plan in
    let low : vars_of m 0 ≤ vars_of m room = vars_grow m 0 room (omega arith) in
    record {
      fits = omega (arith, vars, low);
      given =
          ap (λ (x : State). x.given) done ∙ ap (λ xs. xs ++ cs) (ap (λ (x : State). x.given) new) ∙ is ∙ ap (λ (q : Plan). opening q m) plan
          ∙ none_unrolled m;
    }

-- one that was given a step more
pub step_loaded : (m : TransitionSystem) (p : Plan) (e : Engine) (next : ℕ) (cs : List (List Lit)) (t : State) → p ≡ plan_of m → cs ≡ moment p m e.steps →
    next ≡ e.steps + 1 → t ≡ record e.solver { given = e.solver.given ++ cs } → IsLoaded m e → vars_of m (e.steps + 1) ≤ e.solver.vars →
    IsLoaded m (record { solver = t; steps = next })
step_loaded m p e next cs t plan is after done loaded fits =
    let vars : t.vars ≡ e.solver.vars = ap (λ (x : State). x.vars) done in
    let more : e.solver.given ++ cs ≡ unrolled m (e.steps + 1) =
    ap (λ xs. xs ++ cs) loaded.given ∙ ap (λ xs. unrolled m e.steps ++ xs) (is ∙ ap (λ (q : Plan). moment q m e.steps) plan) ∙ more_unrolled m e.steps in
    record {
      fits = subst (λ k. vars_of m next ≤ k) (sym vars) (subst (λ k. vars_of m k ≤ e.solver.vars) (sym after) fits);
      given = ap (λ (x : State). x.given) done ∙ more ∙ ap (λ k. unrolled m k) (sym after);
    }

-- what was learned is known where it was kept
pub all_known : (kept : Option Engine) (e : Engine) → kept ≡ Some e → All (Contains (known_of kept)) e.solver.learned
all_known kept e is =
    let P : List (List Lit) → Type 0 = λ xs. All (Contains xs) e.solver.learned in
    subst P (ap known_of (sym is)) (All-contains_itself e.solver.learned)

-- nothing was learned
pub none_known : (known learned : List (List Lit)) → learned ≡ [] → All (Contains known) learned
none_known known learned none = subst (λ (xs : List (List Lit)). All (Contains known) xs) (sym none) (All-nil (Contains known))
