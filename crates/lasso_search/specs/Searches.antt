-- What a search finds, and the solver that is kept for it.
use Rattle.std.specs.Prelude.{◌≡◌, ℕ, ◌+◌, ◌<◌, ◌≤◌, ⊤, Bool, true, false, List, [], ◌∷◌, Option, None, Some, MatchOption}
use Rattle.clause_core.specs.declared.literal.Lit.{Lit}
use Rattle.clause_core.specs.Assignments.{assignment_of}
use Rattle.clause_core.specs.Systems.{TransitionSystem}
use Rattle.sat_core.specs.declared.answer.Answer.{Answer}
use Rattle.sat_core.specs.declared.answer.Answer.TheVariants as solver
use Rattle.lasso_search.specs.declared.plan.Plan.{Plan}
use Rattle.lasso_search.specs.declared.plan.Turn.{Turn}
use Rattle.lasso_search.specs.declared.loading.Engine.{Engine}
use Rattle.lasso_search.specs.declared.searched.Searched.{Searched}
use Rattle.lasso_search.specs.declared.searched.Searched.TheVariants as searched
use Rattle.lasso_search.specs.Lassos.{Lasso, IsFairLasso, HasNoFairLasso}
use Rattle.lasso_search.specs.Unrolling.{each, place, begun_literal, unrolled, vars_of}

-- the system, and learned clauses that later queries may use
pub record SolverView : Type 0 where
  pub system : TransitionSystem
  pub known : List (List Lit)

-- the answer for the system m and n states is right: a fair lasso; or that there is none; or that the purse, whose
-- budget this is, was spent, and `over` says that it is spent afterwards
abbrev pub Finds : TransitionSystem → ℕ → ℕ → Bool → Searched → Type 0
Finds m n budget over (searched.Found r) = IsFairLasso m n r
Finds m n budget over searched.None = HasNoFairLasso m n
Finds m n budget over (searched.Spent drawn b) = (drawn ≡ budget) × (b ≡ budget) × (over ≡ true)

-- the solver was given the clauses of these steps, and nothing else, and has variables for them
pub record IsLoaded (m : TransitionSystem) (e : Engine) : Type 0 where
  pub fits : vars_of m e.steps ≤ e.solver.vars
  pub given : e.solver.given ≡ unrolled m e.steps

-- the same where there is one
abbrev pub IsKept : TransitionSystem → Option Engine → Type 0
IsKept m kept = MatchOption kept ⊤ (IsLoaded m)

abbrev pub known_of : Option Engine → List (List Lit)
known_of None = []
known_of (Some e) = e.solver.learned

-- the values of the system's variables in the step from state i
abbrev pub row_of : Plan → (ℕ → Bool) → ℕ → List Bool
row_of p a i = each (λ v. a (place p (Turn.Step i) v) ∷ []) p.all

abbrev pub rows_of : Plan → (ℕ → Bool) → ℕ → List (List Bool)
rows_of p a n = each (λ i. row_of p a i ∷ []) n

-- l is the first time such that the loop begins before the time after it, or n where there is none before n
pub record IsStart (p : Plan) (a : ℕ → Bool) (n l : ℕ) : Type 0 where
  pub inside : l ≤ n
  pub before : (k : ℕ) → k < l → a (begun_literal p (k + 1)).var ≡ false
  pub here : l < n → a (begun_literal p (l + 1)).var ≡ true

-- the lasso of n states has the values of the model
abbrev pub Reads : Plan → ℕ → List Bool → Lasso → Type 0
Reads p n model r = (r.rows ≡ rows_of p (assignment_of model) n) × IsStart p (assignment_of model) n r.start

-- what a solver's answer to the query for n states says
abbrev pub Tells : Plan → ℕ → Answer → Searched → Type 0
Tells p n (solver.Sat model) (searched.Found r) = Reads p n model r
Tells p n (solver.Sat model) searched.None = ⊥
Tells p n (solver.Sat model) (searched.Spent drawn budget) = ⊥
Tells p n (solver.Unsat core) answer = answer ≡ searched.None
Tells p n (solver.Spent drawn budget) answer = answer ≡ searched.Spent drawn budget
