-- What a solver of groups holds.
use Rattle.std.specs.Prelude.{◌≡◌, ℕ, ◌+◌, ◌<◌, ◌≤◌, List, [], ◌++◌, length, take}
use Rattle.clause_core.specs.declared.literal.Lit.{Lit}
use Rattle.frame_solver.specs.declared.loading.Engine.{Engine}
use Rattle.frame_solver.specs.Guards.{HoldsGroups}
use Rattle.frame_solver.specs.Groups.{groups}

-- these groups and some of the lemmas' clauses stand in the solver
pub record IsLoaded (b : ℕ) (heads : List (List (List Lit))) (clauses : List (List Lit)) (e : Engine) : Type 0 where
  pub base : e.base ≡ b
  pub count : e.heads ≡ length heads
  pub some : e.loaded ≤ length clauses
  pub room : b + (length heads + e.loaded) ≤ e.used
  pub fits : e.used ≤ e.solver.vars
  pub holds : HoldsGroups b (groups heads (take e.loaded clauses)) e.used e.solver.given

-- all of them do, and there is an activation variable for a query
pub record IsReady (b : ℕ) (heads : List (List (List Lit))) (clauses : List (List Lit)) (e : Engine) : Type 0 where
  pub base : e.base ≡ b
  pub count : e.heads ≡ length heads
  pub all : e.loaded ≡ length clauses
  pub room : b + (length heads + length clauses) < e.used
  pub fits : e.used ≤ e.solver.vars
  pub holds : HoldsGroups b (groups heads clauses) e.used e.solver.given

-- learned clauses that queries of both solvers may use
abbrev pub known_of : Engine → Engine → List (List Lit)
known_of steps states = steps.solver.learned ++ states.solver.learned

-- a new solver holds these groups, and has room for so many lemmas and a query
pub record IsFresh (b : ℕ) (heads : List (List (List Lit))) (lemmas : ℕ) (e : Engine) : Type 0 where
  pub base : e.base ≡ b
  pub count : e.heads ≡ length heads
  pub none : e.loaded ≡ 0
  pub room : b + (length heads + lemmas) < e.used
  pub fits : e.used ≤ e.solver.vars
  pub nothing : e.solver.learned ≡ []
  pub holds : HoldsGroups b heads e.used e.solver.given

-- where lemmas are loaded
pub record KeepsLoading (old new : Engine) : Type 0 where
  pub base : new.base ≡ old.base
  pub heads : new.heads ≡ old.heads
  pub used : new.used ≡ old.used
  pub vars : new.solver.vars ≡ old.solver.vars
  pub learned : new.solver.learned ≡ old.solver.learned
