-- What an outcome says of the frames of which it was asked.
use Rattle.std.specs.Prelude.{◌≡◌, ℕ, ◌-◌, ◌<◌, Bool, true, List, length, All}
use Rattle.clause_core.specs.declared.literal.Lit.{Lit}
use Rattle.clause_core.specs.Assignments.{assignment_of}
use Rattle.frame_core.specs.FrameLaw.{FrameState, system_at, InFrame, AllStand}
use Rattle.frame_history.specs.declared.entries.Subject.{Subject}
use Rattle.frame_history.specs.declared.entries.Subject.TheVariants.{Bad, Block, Push}
use Rattle.frame_history.specs.History.{asked_level, asked_system}
use Rattle.frame_solver.specs.Paying.{AskedQuery, Pays, AllDiffer}
use Rattle.frame_query.specs.Findings.{SolverView}
use Rattle.frame_book.specs.declared.claim.ClaimOutcome.{ClaimOutcome}
use Rattle.frame_book.specs.declared.claim.ClaimOutcome.TheVariants.{Proved, Step, Found, Clear, Spent}
use Rattle.frame_book.specs.Claims.{ClaimView}
use Rattle.frame_book.specs.Outcomes.{IsOutcomeOf}
use Rattle.frame_claims.specs.Paying.{MayAsk}

-- the system and the lemmas of the solver are those of the frames
pub record IsUpToDate (f : FrameState) (w : SolverView) : Type 0 where
  pub systems : w.systems ≡ f.systems
  pub lemmas : w.lemmas ≡ f.lemmas

-- what the subject names is there
abbrev pub IsThere : FrameState → Subject → Type 0
IsThere f (Bad j) = j < length f.systems
IsThere f (Block o) = o < length f.obligations
IsThere f (Push n) = n < length f.lemmas

-- the outcome is of the frames as they are
abbrev pub IsTimely : FrameState → ClaimView → ClaimOutcome → Type 0
IsTimely f v (Proved p) = AllStand f.lemmas (v.level - 1) p.parents
IsTimely f v (Step s) = InFrame (system_at f.systems 0) f.lemmas (v.level - 1) (assignment_of s.values)
IsTimely f v (Found g) =
    InFrame (system_at f.systems (asked_system f v.subject)) f.lemmas (asked_level v.subject v.level) (assignment_of g.values)
IsTimely f v (Clear c) = AllStand f.lemmas v.level c.parents
IsTimely f v (Spent d b) = Unit {0}

-- that the purse was spent is said only where it was
abbrev pub IsSpentBy : Bool → ClaimOutcome → Type 0
IsSpentBy over (Spent d b) = over ≡ true
IsSpentBy over (Proved p) = Unit {0}
IsSpentBy over (Step s) = Unit {0}
IsSpentBy over (Found f) = Unit {0}
IsSpentBy over (Clear c) = Unit {0}

-- the outcome is of this claim, of the frames as they are, and says that the purse was spent only where it was
pub record IsAsked (f : FrameState) (v : ClaimView) (over : Bool) (o : ClaimOutcome) : Type 0 where
  pub of : IsOutcomeOf f.systems v v.subject o
  pub timely : IsTimely f v o
  pub spent : IsSpentBy over o

-- queries over the frames, of questions that this claim may ask, no two of one question, were paid for
abbrev pub PaysClaim : FrameState → ClaimView → List (List Lit) → List (List Lit) → List ℕ → List ℕ → Type 0
PaysClaim f v old new before after =
    (log : List AskedQuery)
    × Pays f.systems f.lemmas old new before after log
    × AllDiffer log
    × All (λ (a : AskedQuery). MayAsk f v.subject v.level a.question) log
