-- The queries of several workers, a list for each of them.
use Rattle.std.specs.Prelude.{◌≡◌, ◌≢◌, ℕ, ◌+◌, ◌<◌, ◌≤◌, List, [], ◌++◌, ◌∷◌, All, AllPairs}
use Rattle.clause_core.specs.declared.literal.Lit.{Lit}
use Rattle.sat_core.specs.Paying.{IsPaidLog, tickets_in}
use Rattle.frame_history.specs.declared.entries.Entry.{Entry}
use Rattle.frame_history.specs.History.{BookState}
use Rattle.frame_claims.specs.Paying.{ClaimQuery, IsOfClaim, DifferInKey, queries_in}

-- one list after another
abbrev pub all_of : List (List ClaimQuery) → List ClaimQuery
all_of [] = []
all_of (log ∷ logs) = log ++ all_of logs

-- two queries of one claim are of different questions
abbrev pub DifferInClaim : ClaimQuery → ClaimQuery → Type 0
DifferInClaim p q = p.claim ≡ q.claim → p.asked.question ≢ q.asked.question

-- the query is of a claim of one of so many workers, from this number on
pub record IsOfWorkers (first : BookState) (history : List Entry) (from count : ℕ) (q : ClaimQuery) : Type 0 where
  pub of : IsOfClaim first history q
  pub least : from ≤ of.worker
  pub most : of.worker < from + count

-- the queries of one solver, one after another, each of which learned its clauses from conflicts; `known` are the
-- learned clauses that later ones may use
pub record IsPaidList (known : List (List Lit)) (log : List ClaimQuery) : Type 0 where
  pub mine : List ℕ
  pub paid : IsPaidLog [] known [] mine (queries_in log)

-- the same, whatever later ones may use
abbrev pub IsPaidFor : List ClaimQuery → Type 0
IsPaidFor log = (known : List (List Lit)) × IsPaidList known log

-- the list of a worker, and those of others: all are of claims of these workers, those of one claim are of different
-- questions, and as many tickets were drawn as they cost
pub record ArePaidLists (first : BookState) (history : List Entry) (from count : ℕ) (known : List (List Lit)) (drawn : ℕ) (own : List ClaimQuery)
    (others : List (List ClaimQuery)) : Type 0 where
  pub each : All (IsOfWorkers first history from count) (all_of others ++ own)
  pub apart : AllPairs DifferInClaim (all_of others ++ own)
  pub own_paid : IsPaidList known own
  pub others_paid : All IsPaidFor others
  pub tickets : tickets_in (queries_in (all_of others ++ own)) ≡ drawn

-- lists that were paid for: all queries are of claims of the history, no two have one key, and so many tickets were
-- drawn for them
pub record ArePaid (first : BookState) (history : List Entry) (drawn : ℕ) (logs : List (List ClaimQuery)) : Type 0 where
  pub each : All (IsOfClaim first history) (all_of logs)
  pub apart : AllPairs (DifferInKey first history) (all_of logs)
  pub paid : All IsPaidFor logs
  pub tickets : tickets_in (queries_in (all_of logs)) ≡ drawn
