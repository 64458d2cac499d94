-- The work that was paid for: the queries of the claims of a history, each with the clauses that it learned.
use Rattle.std.specs.Prelude.{◌≡◌, ℕ, ⊤, Bool, List, [], map, take, slice_get, All, AllPairs, Some}
use Rattle.clause_core.specs.declared.literal.Lit.{Lit}
use Rattle.clause_core.specs.Assignments.{ClauseTrue, assignment_of}
use Rattle.sat_core.specs.Paying.{Query, IsPaidLog}
use Rattle.frame_core.specs.FrameLaw.{FrameState, lemma_at, obligation_at}
use Rattle.frame_history.specs.declared.entries.Subject.{Subject}
use Rattle.frame_history.specs.declared.entries.Subject.TheVariants.{Bad, Block, Push}
use Rattle.frame_history.specs.declared.entries.Entry.{Entry}
use Rattle.frame_history.specs.declared.entries.Entry.TheVariants.{Claim}
use Rattle.frame_history.specs.History.{BookState, replay}
use Rattle.frame_book.specs.Claims.{ClaimView}
use Rattle.frame_solver.specs.Paying.{Question, Steps, Firsts, Bads, AskedQuery, IsQueryOf}

-- what a claim on bad states of system j may ask: for one in the frame of its level, and whether a state is an initial
-- one
abbrev pub MayAskBad : ℕ → ℕ → Question → Type 0
MayAskBad j level (Bads k i) = (k ≡ j) × (i ≡ level)
MayAskBad j level (Steps i clause) = ⊥
MayAskBad j level (Firsts clause) = ⊤

-- what a claim to block the state of these values may ask: for a step at its level into a clause that is false there,
-- and for initial states
abbrev pub MayAskBlock : List Bool → ℕ → Question → Type 0
MayAskBlock values level (Bads k i) = ⊥
MayAskBlock values level (Steps i clause) = (i ≡ level) × (ClauseTrue (assignment_of values) clause → ⊥)
MayAskBlock values level (Firsts clause) = ⊤

-- what a claim to push a lemma of this clause may ask: for a step at its level out of it
abbrev pub MayAskPush : List Lit → ℕ → Question → Type 0
MayAskPush clause level (Bads k i) = ⊥
MayAskPush clause level (Steps i d) = (i ≡ level) × (d ≡ clause)
MayAskPush clause level (Firsts d) = ⊥

-- what a claim may ask, as its worker sees it
abbrev pub MayAskFor : ClaimView → Subject → Question → Type 0
MayAskFor c (Bad j) question = MayAskBad j c.level question
MayAskFor c (Block o) question = MayAskBlock c.values c.level question
MayAskFor c (Push n) question = MayAskPush c.clause c.level question

-- what a claim may ask of the frames
abbrev pub MayAsk : FrameState → Subject → ℕ → Question → Type 0
MayAsk f (Bad j) level question = MayAskBad j level question
MayAsk f (Block o) level question = MayAskBlock (obligation_at f.obligations o).values level question
MayAsk f (Push n) level question = MayAskPush (lemma_at f.lemmas n).clause level question

-- a query that a claim asked: the number of the entry that made the claim, and the query with its question
pub record ClaimQuery : Type 0 where
  pub claim : ℕ
  pub asked : AskedQuery

-- what tells it from other queries: what its claim asks at which level, how often a lemma had been added or raised, and
-- the question
pub record Key : Type 0 where
  pub subject : Subject
  pub level : ℕ
  pub growth : ℕ
  pub question : Question

-- the state before entry n of a history
abbrev pub before : BookState → List Entry → ℕ → BookState
before first history n = replay first (take n history)

-- the key of a query of a history
pub record HasKey (first : BookState) (history : List Entry) (q : ClaimQuery) (k : Key) : Type 0 where
  pub worker : ℕ
  pub there : slice_get history q.claim ≡ Some (Claim worker k.subject k.level)
  pub growth : k.growth ≡ (before first history q.claim).growth
  pub question : k.question ≡ q.asked.question

-- the query is of a claim of the history, which may ask it, over the lemmas as they were when the claim was made
pub record IsOfClaim (first : BookState) (history : List Entry) (q : ClaimQuery) : Type 0 where
  pub worker : ℕ
  pub subject : Subject
  pub level : ℕ
  pub there : slice_get history q.claim ≡ Some (Claim worker subject level)
  pub may : MayAsk (before first history q.claim).frames subject level q.asked.question
  pub query : IsQueryOf (before first history q.claim).frames.systems (before first history q.claim).frames.lemmas q.asked.question q.asked.query

-- the keys differ
abbrev pub DifferInKey : BookState → List Entry → ClaimQuery → ClaimQuery → Type 0
DifferInKey first history p q = (k : Key) → HasKey first history p k → HasKey first history q k → ⊥

abbrev pub queries_in : List ClaimQuery → List Query
queries_in log = map (λ (q : ClaimQuery). q.asked.query) log

-- the queries of this log were asked by claims of the history, no two have one key, each learned its clauses from
-- conflicts, and as many tickets were drawn as they cost, where `old` were drawn before; `known` are the learned
-- clauses that later queries may use
pub record IsPaidRun (first : BookState) (history : List Entry) (known : List (List Lit)) (old tickets : List ℕ) (log : List ClaimQuery) : Type 0 where
  pub each : All (IsOfClaim first history) log
  pub apart : AllPairs (DifferInKey first history) log
  pub paid : IsPaidLog [] known old tickets (queries_in log)
