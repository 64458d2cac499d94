-- What queries about frames ask, and that they were paid for.
use Rattle.std.specs.Prelude.{◌≡◌, ◌≢◌, ℕ, ◌+◌, ◌-◌, ◌<◌, ◌≤◌, ◌⊎◌, List, [], ◌∷◌, length, map, All, AllPairs, Contains}
use Rattle.clause_core.specs.declared.literal.Lit.{Lit}
use Rattle.clause_core.specs.Literals.{negate}
use Rattle.clause_core.specs.Systems.{TransitionSystem}
use Rattle.sat_core.specs.Paying.{Query, IsPaidLog}
use Rattle.frame_core.specs.declared.parts.Lemma.{Lemma}
use Rattle.frame_core.specs.FrameLaw.{system_at}
use Rattle.frame_solver.specs.Guards.{off, IsGuarded, AllLoaded}
use Rattle.frame_solver.specs.Groups.{base, step_heads, state_heads, clauses_of, groups}
use Rattle.frame_solver.specs.Asking.{AreAsked}
use Rattle.frame_solver.specs.Stepping.{step_literals}

-- what a query asks: whether a step from the frame below a level leaves a clause; whether an initial state does not
-- meet a clause; whether a state of a frame is bad for system j
pub data Question : Type 0 where
  Steps : (level : ℕ) (clause : List Lit) → Question
  Firsts : (clause : List Lit) → Question
  Bads : (j level : ℕ) → Question

-- the groups of systems that the question is asked beside
abbrev pub heads_of : List TransitionSystem → Question → List (List (List Lit))
heads_of systems (Steps level clause) = step_heads (system_at systems 0)
heads_of systems (Firsts clause) = state_heads systems
heads_of systems (Bads j level) = state_heads systems

-- the frame whose states are asked for, and the group beside it
abbrev pub frame_of : Question → ℕ
frame_of (Steps level clause) = level - 1
frame_of (Firsts clause) = 0
frame_of (Bads j level) = level

abbrev pub head_of : Question → ℕ
head_of (Steps level clause) = 1
head_of (Firsts clause) = 0
head_of (Bads j level) = 1 + j

-- the clauses that the query has for itself, behind the activation variable `own`
abbrev pub own_clauses : ℕ → Question → List (List Lit)
own_clauses own (Steps level clause) = (off own ∷ clause) ∷ []
own_clauses own (Firsts clause) = []
own_clauses own (Bads j level) = []

-- the literals that it assumes beside activation literals of groups
abbrev pub own_literals : ℕ → ℕ → Question → List Lit
own_literals state_bits own (Steps level clause) = step_literals state_bits own clause
own_literals state_bits own (Firsts clause) = map negate clause
own_literals state_bits own (Bads j level) = []

-- the query is one of this question: its clauses are those of the groups of systems and lemmas behind their activation
-- variables, those of earlier queries behind variables from `used` on, and the question's own; and it assumes the
-- activation literals of the frame and of the group that are asked for, and the question's own literals
pub record IsQueryOf (systems : List TransitionSystem) (lemmas : List Lemma) (question : Question) (query : Query) : Type 0 where
  pub own : ℕ
  pub used : ℕ
  pub past : base (system_at systems 0) + (length (heads_of systems question) + length lemmas) ≤ own
  pub served : own < used
  pub clauses : All (λ c. IsGuarded (base (system_at systems 0)) (groups (heads_of systems question) (clauses_of lemmas)) used c
      ⊎ Contains (own_clauses own question) c) query.own
  pub loaded : AllLoaded (base (system_at systems 0)) (groups (heads_of systems question) (clauses_of lemmas)) query.own
  pub there : All (Contains query.own) (own_clauses own question)
  pub asks : AreAsked (base (system_at systems 0)) (length (heads_of systems question)) lemmas (frame_of question) (head_of question)
      (length (heads_of systems question) + length lemmas) (own_literals (system_at systems 0).state_bits own question) query.assumptions

-- a query, and the question that it is of
pub record AskedQuery : Type 0 where
  pub question : Question
  pub query : Query

abbrev pub queries_of : List AskedQuery → List Query
queries_of log = map (λ (a : AskedQuery). a.query) log

-- the queries were asked over these systems and lemmas, and paid for; `old` and `new` are the learned clauses that
-- queries may use before and after
pub record Pays (systems : List TransitionSystem) (lemmas : List Lemma) (old new : List (List Lit)) (before after : List ℕ) (log : List AskedQuery) : Type 0 where
  pub each : All (λ (a : AskedQuery). IsQueryOf systems lemmas a.question a.query) log
  pub paid : IsPaidLog old new before after (queries_of log)

-- no two queries are of one question
abbrev pub AllDiffer : List AskedQuery → Type 0
AllDiffer log = AllPairs (λ (p q : AskedQuery). p.question ≢ q.question) log

-- at most this was asked, once, and it was paid for
abbrev pub PaysOne : List TransitionSystem → List Lemma → List (List Lit) → List (List Lit) → List ℕ → List ℕ → Question → Type 0
PaysOne systems lemmas old new before after question =
    (log : List AskedQuery)
    × Pays systems lemmas old new before after log
    × (length log ≤ 1)
    × All (λ (a : AskedQuery). a.question ≡ question) log
