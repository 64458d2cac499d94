-- Queries as data, and the log of those that tickets paid for.
use Rattle.std.specs.Prelude.{◌≡◌, ℕ, ◌+◌, ◌<◌, ◌≤◌, ⊤, List, [], ◌∷◌, ◌++◌, length, take, slice_index_or, Contains, All}
use Rattle.clause_core.specs.declared.literal.Lit.{Lit}
use Rattle.sat_core.specs.Queries.{State, IsLearned, Draws}

-- a query: how many variables there are, its own clauses, those that were learned earlier, what it assumes, and the
-- clauses that it learned, in their order
pub record Query : Type 0 where
  pub vars : ℕ
  pub own : List (List Lit)
  pub earlier : List (List Lit)
  pub assumptions : List Lit
  pub learned : List (List Lit)

-- the query that a solver in this state is asked under these assumptions, and that learned these clauses
abbrev pub query_of : State → List Lit → List (List Lit) → Query
query_of s assumptions learned =
    record { vars = s.vars; own = s.given; earlier = s.learned; assumptions = assumptions; learned = learned }

-- each clause was learned from a conflict of the live clauses and of those learned before it
abbrev pub LearnedInTurn : ℕ → List Lit → List (List Lit) → List (List Lit) → Type 0
LearnedInTurn vars assumptions live learned =
    (k : ℕ) → k < length learned → IsLearned vars assumptions (live ++ take k learned) (slice_index_or learned k [])

-- the query learned its clauses from conflicts of its own clauses, those learned earlier, and those that it learned before
abbrev pub IsAsked : Query → Type 0
IsAsked q = LearnedInTurn q.vars q.assumptions (q.own ++ q.earlier) q.learned

-- the clauses that the queries learned, one query after another
abbrev pub learned_in : List Query → List (List Lit)
learned_in [] = []
learned_in (q ∷ qs) = q.learned ++ learned_in qs

-- how many tickets the queries cost: one each, and one for each clause that they learned
abbrev pub tickets_in : List Query → ℕ
tickets_in [] = 0
tickets_in (q ∷ qs) = (length q.learned + 1) + tickets_in qs

-- each query was asked, and what it takes as learned earlier was known at first or learned in a query before it
abbrev pub AreAsked : List (List Lit) → List Query → Type 0
AreAsked known [] = ⊤
AreAsked known (q ∷ qs) = IsAsked q × All (Contains known) q.earlier × AreAsked (known ++ q.learned) qs

-- the paid log: these queries were asked, one after another, where the learned clauses `old` were known at first; those
-- known in the end are of these or were learned in the queries; and as many tickets were drawn as the queries cost
pub record IsPaidLog (old new : List (List Lit)) (before after : List ℕ) (log : List Query) : Type 0 where
  pub asked : AreAsked old log
  pub known : All (Contains (old ++ learned_in log)) new
  pub drawn : Draws before after (tickets_in log)

-- the clauses that a query of a solver in state s learned were paid for by a ticket each; the learned clauses of state t
-- are of these or from before
abbrev pub PaysForLearned : State → List Lit → State → List ℕ → List ℕ → Type 0
PaysForLearned s assumptions t before after =
    (learned : List (List Lit))
    × IsAsked (query_of s assumptions learned)
    × All (Contains (s.learned ++ learned)) t.learned
    × Draws before after (length learned)

-- a solver that went from state s to state t was asked at most once, under these assumptions, and that was paid for
abbrev pub PaysForOne : State → List Lit → State → List ℕ → List ℕ → Type 0
PaysForOne s assumptions t before after =
    (log : List Query)
    × IsPaidLog s.learned t.learned before after log
    × (length log ≤ 1)
    × All (λ q. q ≡ query_of s assumptions q.learned) log
