-- What a search asks, and that it was paid for.
use Rattle.std.specs.Prelude.{◌≡◌, ℕ, ◌+◌, ◌≤◌, ◌⊎◌, ⊤, List, length, All}
use Rattle.clause_core.specs.declared.literal.Lit.{Lit}
use Rattle.clause_core.specs.Systems.{TransitionSystem}
use Rattle.sat_core.specs.Queries.{Draws}
use Rattle.sat_core.specs.Paying.{Query, IsPaidLog}
use Rattle.lasso_search.specs.declared.searched.Searched.{Searched}
use Rattle.lasso_search.specs.declared.searched.Searched.TheVariants.{Found, None, Spent}
use Rattle.lasso_search.specs.Unrolling.{unrolled, closing}

-- the query is that of length n: its clauses are those of n steps or more, and it assumes what closes the loop after n
pub record IsQueryOf (m : TransitionSystem) (n : ℕ) (q : Query) : Type 0 where
  pub steps : ℕ
  pub enough : n ≤ steps
  pub own : q.own ≡ unrolled m steps
  pub assumes : q.assumptions ≡ closing m n

-- at most the query of length n was asked, once, and it was paid for; `old` and `new` are the learned clauses that
-- queries may use before and after
abbrev pub PaysOne : TransitionSystem → ℕ → List (List Lit) → List (List Lit) → List ℕ → List ℕ → Type 0
PaysOne m n old new before after =
    (log : List Query) × IsPaidLog old new before after log × (length log ≤ 1) × All (IsQueryOf m n) log

-- the answer is that the purse was spent
abbrev pub IsSpent : Searched → Type 0
IsSpent (Found r) = ⊥
IsSpent None = ⊥
IsSpent (Spent drawn budget) = ⊤

-- a ticket was drawn for the query; or none, where its own ticket was refused
abbrev pub IsAsked : List ℕ → List ℕ → Searched → Type 0
IsAsked before after answer = ((learned : ℕ) × Draws before after (learned + 1)) ⊎ (IsSpent answer × (after ≡ before))
