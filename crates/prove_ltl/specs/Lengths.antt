-- The work that was paid for a search of lassos of one length after another.
use Rattle.std.specs.Prelude.{◌≡◌, ◌≢◌, ◌⊎◌, ℕ, ◌<◌, ◌≤◌, List, [], map, All, AllPairs}
use Rattle.clause_core.specs.declared.literal.Lit.{Lit}
use Rattle.clause_core.specs.Systems.{TransitionSystem}
use Rattle.sat_core.specs.Paying.{Query, IsPaidLog}
use Rattle.lasso_search.specs.Lassos.{HasNoFairLasso}
use Rattle.lasso_search.specs.Paying.{IsQueryOf}

-- a query for a fair lasso of so many states
pub record LengthQuery : Type 0 where
  pub states : ℕ
  pub query : Query

abbrev pub queries_of : List LengthQuery → List Query
queries_of log = map (λ (q : LengthQuery). q.query) log

-- the query asks for a fair lasso, of a length greater than `first` and at most `last`
pub record IsOfLength (m : TransitionSystem) (first last : ℕ) (q : LengthQuery) : Type 0 where
  pub some : first < q.states
  pub within : q.states ≤ last
  pub asks : IsQueryOf m q.states q.query

-- not of one length
abbrev pub DifferInLength : LengthQuery → LengthQuery → Type 0
DifferInLength p q = p.states ≢ q.states

-- the queries asked for fair lassos of such lengths, no two for one length, and as many tickets were drawn as they cost; `old` and `new` are the
-- learned clauses that queries may use before and after
pub record PaysBetween (m : TransitionSystem) (first last : ℕ) (old new : List (List Lit)) (before after : List ℕ) (log : List LengthQuery) : Type 0 where
  pub each : All (IsOfLength m first last) log
  pub apart : AllPairs DifferInLength log
  pub paid : IsPaidLog old new before after (queries_of log)

-- the queries asked for fair lassos of lengths up to the bound, from the first query on
abbrev pub PaysLengths : TransitionSystem → ℕ → List (List Lit) → List ℕ → List LengthQuery → Type 0
PaysLengths m bound known tickets log = PaysBetween m 0 bound [] known [] tickets log

-- no length greater than `first` and at most `last` has a fair lasso
abbrev pub HasNoneBetween : TransitionSystem → ℕ → ℕ → Type 0
HasNoneBetween m first last = (n : ℕ) → first < n → n ≤ last → HasNoFairLasso m n

-- no length from 1 up to the bound has a fair lasso
abbrev pub HasNoneUpTo : TransitionSystem → ℕ → Type 0
HasNoneUpTo m bound = HasNoneBetween m 0 bound

-- the search stands at a length, which it did not answer: the lengths up to `at`, which is less, have no fair lasso, and each query was for one of
-- these or for the length where it stands
pub record StandsBetween (m : TransitionSystem) (first last : ℕ) (log : List LengthQuery) : Type 0 where
  pub at : ℕ
  pub stands : ℕ
  pub from : first ≤ at
  pub below : at < stands
  pub inside : stands ≤ last
  pub none : HasNoneBetween m first at
  pub asked : All (λ (q : LengthQuery). (q.states ≤ at) ⊎ (q.states ≡ stands)) log

-- the same of all lengths from 1 up to the bound
abbrev pub IsSearchOpen : TransitionSystem → ℕ → List LengthQuery → Type 0
IsSearchOpen m bound log = StandsBetween m 0 bound log
