-- What is asked for the parts of a certificate, and that it was paid for.
use Rattle.std.specs.Prelude.{◌≡◌, ◌≢◌, ℕ, ◌+◌, ◌<◌, ⊤, Bool, List, [], ◌++◌, length, map, All, AllPairs, Some, slice_get, slice_index_or}
use Rattle.clause_core.specs.declared.literal.Lit.{Lit}
use Rattle.clause_core.specs.Assignments.{ClauseTrue}
use Rattle.clause_core.specs.Systems.{TransitionSystem}
use Rattle.sat_core.specs.Paying.{Query, IsPaidLog}
use Rattle.cert_core.specs.declared.form.Part.{Part}
use Rattle.cert_core.specs.declared.form.Part.TheVariants.{Shared, First, Kept, Safe}
use Rattle.cert_core.specs.Certificates.{negated, negated_next}
use Rattle.cert_make.specs.declared.asking.Asked.{Asked}
use Rattle.cert_make.specs.declared.asking.Asked.TheVariants as asked
use Rattle.cert_make.specs.declared.shared.Learned.{Learned}
use Rattle.cert_make.specs.declared.shared.Learned.TheVariants as of_learned
use Rattle.cert_make.specs.declared.making.Made.{Made}
use Rattle.cert_make.specs.declared.making.Made.TheVariants as made

-- no assignment makes the clauses and the literals true
abbrev pub HasNoModel : List (List Lit) → List Lit → Type 0
HasNoModel cs literals = (a : ℕ → Bool) → All (ClauseTrue a) cs → All (λ l. a l.var ≡ l.positive) literals → ⊥

-- a query, and the part of the certificate that it was asked for
pub record PartQuery : Type 0 where
  pub part : Part
  pub query : Query

abbrev pub queries_of : List PartQuery → List Query
queries_of log = map (λ (a : PartQuery). a.query) log

-- a certificate of these clauses is to have the part, and a query is asked for it
abbrev pub IsWanted : List (List Lit) → Part → Type 0
IsWanted cs Shared = ⊥
IsWanted cs (First k) = k < length cs
IsWanted cs (Kept k) = k < length cs
IsWanted cs Safe = ⊤

-- the clauses that the part follows from, beside its negated clause
abbrev pub part_clauses : TransitionSystem → List (List Lit) → Part → List (List Lit)
part_clauses sys cs Shared = cs ++ sys.step
part_clauses sys cs (First k) = sys.init
part_clauses sys cs (Kept k) = cs ++ sys.step
part_clauses sys cs Safe = cs ++ sys.bad

-- the literals of its negated clause, if it has one
abbrev pub part_literals : TransitionSystem → List (List Lit) → Part → List Lit
part_literals sys cs Shared = []
part_literals sys cs (First k) = negated (slice_index_or cs k [])
part_literals sys cs (Kept k) = negated_next sys.state_bits (slice_index_or cs k [])
part_literals sys cs Safe = []

-- the query is of its part: whether the clauses that the part follows from and the negated clause can all be true
pub record IsOfPart (sys : TransitionSystem) (cs : List (List Lit)) (a : PartQuery) : Type 0 where
  pub wanted : IsWanted cs a.part
  pub vars : a.query.vars ≡ sys.all_bits
  pub own : a.query.own ≡ part_clauses sys cs a.part
  pub assumptions : a.query.assumptions ≡ part_literals sys cs a.part

-- no two queries are of one part
abbrev pub AllDiffer : List PartQuery → Type 0
AllDiffer log = AllPairs (λ (p q : PartQuery). p.part ≢ q.part) log

-- the queries were asked for parts of a certificate of these clauses, at most one for each, and paid for; `known` are
-- the learned clauses that later queries may use
pub record PaysParts (sys : TransitionSystem) (cs known : List (List Lit)) (before after : List ℕ) (log : List PartQuery) : Type 0 where
  pub each : All (IsOfPart sys cs) log
  pub apart : AllDiffer log
  pub paid : IsPaidLog [] known before after (queries_of log)

-- no query is of the part but, maybe, the last one, after which nothing was asked
abbrev pub IsLastIn : List PartQuery → Part → Type 0
IsLastIn log part = (i : ℕ) (a : PartQuery) → slice_get log i ≡ Some a → a.part ≡ part → i + 1 ≡ length log

-- some part that the certificate is to have was not answered
pub record LeavesOpen (cs : List (List Lit)) (log : List PartQuery) : Type 0 where
  pub part : Part
  pub wanted : IsWanted cs part
  pub last : IsLastIn log part

-- such queries were paid for, and some part was not answered
abbrev pub PaysOpen : TransitionSystem → List (List Lit) → List ℕ → List ℕ → Type 0
PaysOpen sys cs before after = (log : List PartQuery) × PaysParts sys cs [] before after log × LeavesOpen cs log

-- such queries were paid for; and where the purse was spent, some part was not answered
abbrev pub PaysMaking : TransitionSystem → List (List Lit) → List ℕ → List ℕ → Made → Type 0
PaysMaking sys cs before after (made.Certificate cert) = (log : List PartQuery) × PaysParts sys cs [] before after log
PaysMaking sys cs before after (made.Spent drawn budget) = PaysOpen sys cs before after

-- the place of the part in the order in which they are asked for, where there are n clauses
abbrev pub place_of : ℕ → Part → ℕ
place_of n Shared = n + n + 1
place_of n (First k) = k
place_of n (Kept k) = n + k
place_of n Safe = n + n

-- such queries were paid for, of parts before that place
pub record PaysBelow (sys : TransitionSystem) (cs : List (List Lit)) (place : ℕ) (known : List (List Lit)) (before after : List ℕ) : Type 0 where
  pub log : List PartQuery
  pub pays : PaysParts sys cs known before after log
  pub below : All (λ (a : PartQuery). place_of (length cs) a.part < place) log

-- from one place to another: where the parts before the first were paid for, those before the second are; or the purse
-- was spent, and some part was not answered
abbrev pub PaysOn : TransitionSystem → List (List Lit) → ℕ → ℕ → List (List Lit) → List (List Lit) → List ℕ → List ℕ → Asked → Type 0
PaysOn sys cs from to old new before after asked.Refuted =
    (start : List ℕ) → PaysBelow sys cs from old start before → PaysBelow sys cs to new start after
PaysOn sys cs from to old new before after (asked.Spent drawn budget) =
    (start : List ℕ) → PaysBelow sys cs from old start before → PaysOpen sys cs start after

-- what was learned, as the answer of all questions together
abbrev pub asked_of : Learned → Asked
asked_of (of_learned.Clauses log) = asked.Refuted
asked_of (of_learned.Spent drawn budget) = asked.Spent drawn budget
