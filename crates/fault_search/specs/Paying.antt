-- What was asked about items, and that it was paid for.
use Rattle.std.specs.Prelude.{◌≡◌, ℕ, ◌<◌, ◌≤◌, List, [], length, map, All, AllPairs, Option, None, Some, slice_get}
use Rattle.clause_core.specs.declared.literal.Lit.{Lit}
use Rattle.bit_clauses.specs.declared.deciding.Decided.{Decided}
use Rattle.sat_core.specs.Paying.{Query, IsPaidLog}
use Rattle.sound_check.specs.Questions.{AreNeverMetBelow}
use Rattle.fault_search.specs.declared.searching.Answer.{Answer}
use Rattle.fault_search.specs.declared.searching.Answer.TheVariants.{Free, Faulty, Spent}

-- a query, and the item about which it was asked
pub record ItemQuery : Type 0 where
  pub item : ℕ
  pub query : Query

abbrev pub queries_of : List ItemQuery → List Query
queries_of log = map (λ (a : ItemQuery). a.query) log

-- whether the clauses of a question can be met, with nothing assumed and nothing known from before; these clauses were
-- learned
abbrev pub query_about : Decided → List (List Lit) → Query
query_about d learned = record { vars = d.vars; own = d.clauses; earlier = []; assumptions = []; learned = learned }

-- the query is the question about its item
pub record IsOfItem (questions : List (Option Decided)) (a : ItemQuery) : Type 0 where
  pub question : Decided
  pub asked : slice_get questions a.item ≡ Some (Some question)
  pub query : a.query ≡ query_about question a.query.learned

-- the queries were asked about items in their order, at most one about each, and paid for
pub record PaysItems (questions : List (Option Decided)) (before after : List ℕ) (log : List ItemQuery) : Type 0 where
  pub each : All (IsOfItem questions) log
  pub in_order : AllPairs (λ (a b : ItemQuery). a.item < b.item) log
  pub paid : IsPaidLog [] [] before after (queries_of log)

-- this item was not answered: nothing was asked about a later one, and the questions before it can't be met
pub record LeavesOpen (questions : List (Option Decided)) (log : List ItemQuery) : Type 0 where
  pub item : ℕ
  pub question : Decided
  pub asked : slice_get questions item ≡ Some (Some question)
  pub before : AreNeverMetBelow questions item
  pub until : All (λ (a : ItemQuery). a.item ≤ item) log

-- such queries were paid for
abbrev pub PaysSome : List (Option Decided) → List ℕ → List ℕ → Type 0
PaysSome questions before after = (log : List ItemQuery) × PaysItems questions before after log

-- such queries were paid for, and some item was not answered
abbrev pub PaysOpen : List (Option Decided) → List ℕ → List ℕ → Type 0
PaysOpen questions before after = (log : List ItemQuery) × PaysItems questions before after log × LeavesOpen questions log

-- such queries were paid for; and where the purse was spent, some item was not answered
abbrev pub PaysSearch : List (Option Decided) → List ℕ → List ℕ → Answer → Type 0
PaysSearch questions before after (Free parts) = PaysSome questions before after
PaysSearch questions before after (Faulty item model) = PaysSome questions before after
PaysSearch questions before after (Spent drawn budget) = PaysOpen questions before after

-- at most one query was asked, which is this question, and it was paid for; nothing is asked of nothing
abbrev pub PaysQuestion : Option Decided → List ℕ → List ℕ → Type 0
PaysQuestion None before after = after ≡ before
PaysQuestion (Some d) before after =
    (log : List Query) × IsPaidLog [] [] before after log × (length log ≤ 1) × All (λ (q : Query). q ≡ query_about d q.learned) log

-- such queries were paid for, about the first n items
pub record PaysBelow (questions : List (Option Decided)) (n : ℕ) (before after : List ℕ) : Type 0 where
  pub log : List ItemQuery
  pub pays : PaysItems questions before after log
  pub below : All (λ (a : ItemQuery). a.item < n) log
