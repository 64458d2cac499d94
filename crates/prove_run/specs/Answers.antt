-- What is answered of systems, and why an answer may be unknown.
use Rattle.std.specs.Prelude.{◌≡◌, ℕ, ◌+◌, ◌<◌, ◌⊎◌, Bool, true, false, List, [], ◌∷◌, ◌++◌, length, All, Option, None, Some, slice_get}
use Rattle.clause_core.specs.declared.literal.Lit.{Lit}
use Rattle.clause_core.specs.Systems.{TransitionSystem}
use Rattle.cert_core.specs.Blocks.{Block}
use Rattle.cert_core.specs.Certificates.{Certifies}
use Rattle.cert_make.specs.Paying.{PartQuery, PaysParts, PaysOpen}
use Rattle.sat_core.specs.Paying.{tickets_in}
use Rattle.frame_core.specs.FrameLaw.{FrameState, system_at}
use Rattle.frame_core.specs.Runs.{IsBadRun}
use Rattle.frame_history.specs.declared.entries.Limits.{Limits}
use Rattle.frame_history.specs.declared.entries.Entry.{Entry}
use Rattle.frame_history.specs.History.{BookState, start, replay, HasVerdict, IsLawful}
use Rattle.frame_history.specs.Limits.{WasAtLimit, IsSafeWithin}
use Rattle.prove_run.specs.declared.answers.Answer.{Answer}
use Rattle.prove_run.specs.declared.answers.Answer.TheVariants.{True, False, Unknown}
use Rattle.prove_run.specs.declared.answers.Cause.{Cause}
use Rattle.prove_run.specs.declared.answers.Cause.TheVariants.{Conflicts, Frames}
use Rattle.prove_run.specs.declared.effort.Effort.{Effort}
use Rattle.frame_claims.specs.Lists.{ArePaid}
use Rattle.frame_claims.specs.Paying.{ClaimQuery}
use Rattle.prove_run.specs.Certifying.{CertQuery, PaysCertificates, LacksPart, queries_of}

-- the history is of these systems, with the frames of the effort as its limit
abbrev pub limits_of : Effort → Limits
limits_of effort = record { frames = effort.frames }

abbrev pub first_of : List TransitionSystem → Effort → BookState
first_of systems effort = start (limits_of effort) systems []

-- the frames after the history
abbrev pub frames_of : List TransitionSystem → Effort → List Entry → FrameState
frames_of systems effort history = (replay (first_of systems effort) history).frames

-- as many tickets as the effort has were drawn: first for queries of the history's claims, a list for each worker, then
-- for queries for certificates, no two for one part of one system
pub record IsSpent (systems : List TransitionSystem) (effort : Effort) (history : List Entry) (parts : List CertQuery) : Type 0 where
  pub drawn : ℕ
  pub logs : List (List ClaimQuery)
  pub paid : ArePaid (first_of systems effort) history drawn logs
  pub claimed : List ℕ
  pub spent : List ℕ
  pub count : length claimed ≡ drawn
  pub certified : PaysCertificates (frames_of systems effort history) claimed spent parts
  pub all : drawn + tickets_in (queries_of parts) ≡ effort.conflicts

-- what was done leaves system j open: its frames tell no verdict; or they tell an invariant, and its certificate lacks
-- a part
abbrev pub IsLeftOpen : FrameState → List CertQuery → ℕ → Type 0
IsLeftOpen f parts j = (HasVerdict f j → ⊥) ⊎ LacksPart f parts j

-- Why system j is unknown: the budget was spent, which left it open; or the frames tell no verdict of it, the top of
-- its frames is past the limit, steps led out of each frame up to it, and no bad state is reached in so many steps.
abbrev pub IsCause : List TransitionSystem → Effort → List Entry → ℕ → Cause → Type 0
IsCause systems effort history j (Conflicts drawn budget) =
    (drawn ≡ effort.conflicts) × (budget ≡ effort.conflicts)
    × ((parts : List CertQuery) × IsSpent systems effort history parts × IsLeftOpen (frames_of systems effort history) parts j)
IsCause systems effort history j (Frames frames) =
    (frames ≡ effort.frames) × (HasVerdict (frames_of systems effort history) j → ⊥)
    × WasAtLimit (limits_of effort) (first_of systems effort) history j × IsSafeWithin (system_at systems j) frames

-- an answer about system j is right: this certificate, of no counter, certifies; or this run leads to a bad state; or
-- there is this cause
abbrev pub IsRight : List TransitionSystem → Effort → List Entry → ℕ → Answer → Type 0
IsRight systems effort history j (True cert) = Certifies (system_at systems j) cert × (cert.counter ≡ None)
IsRight systems effort history j (False run) = IsBadRun (system_at systems j) run
IsRight systems effort history j (Unknown cause) = IsCause systems effort history j cause

-- what was done: a lawful history of the systems, and a right answer for each of them, in their order
pub record IsDone (systems : List TransitionSystem) (effort : Effort) (history : List Entry) (answers : List Answer) : Type 0 where
  pub lawful : IsLawful (limits_of effort) (first_of systems effort) history
  pub each_one : length answers ≡ length systems
  pub right : (j : ℕ) (a : Answer) → slice_get answers j ≡ Some a → IsRight systems effort history j a

-- the cause where the budget was spent
abbrev pub spent_cause : Effort → Cause
spent_cause effort = Conflicts effort.conflicts effort.conflicts

-- why a system without a verdict is unknown
abbrev pub cause_of : Bool → Effort → Cause
cause_of true effort = spent_cause effort
cause_of false effort = Frames effort.frames

-- what is answered of system j by its frames, where `over` says whether the purse was spent in the book, and `spent`
-- whether it is by now: this certificate certifies; this run leads to a bad state; no verdict is told, for a cause; or
-- the purse was spent before the certificate was made
abbrev pub Answers : Effort → FrameState → Bool → List CertQuery → Bool → ℕ → Answer → Type 0
Answers effort f over parts spent j (True cert) = Certifies (system_at f.systems j) cert × (cert.counter ≡ None)
Answers effort f over parts spent j (False run) = IsBadRun (system_at f.systems j) run
Answers effort f over parts spent j (Unknown cause) =
    ((HasVerdict f j → ⊥) × (cause ≡ cause_of over effort)) ⊎ (LacksPart f parts j × (spent ≡ true) × (cause ≡ spent_cause effort))

-- some certificate: it certifies, and has this counter; none: the purse is spent, and some part was not answered. What
-- was asked was paid for.
abbrev pub CertifySays : TransitionSystem → List (List Lit) → Option ℕ → List ℕ → List ℕ → Bool → Option Block → Type 0
CertifySays sys cs counter before after spent None = (spent ≡ true) × PaysOpen sys cs before after
CertifySays sys cs counter before after spent (Some cert) =
    Certifies sys cert × (cert.counter ≡ counter) × ((log : List PartQuery) × PaysParts sys cs [] before after log)

-- the answer at this place is right of the system of this number
abbrev pub AnswersAt : Effort → FrameState → Bool → List CertQuery → Bool → List Answer → ℕ → Type 0
AnswersAt effort f over parts spent answers j = (a : Answer) × (slice_get answers j ≡ Some a) × Answers effort f over parts spent j a

-- the first systems are answered, in their order, and queries for their certificates were paid for
pub record AreAnswered (effort : Effort) (f : FrameState) (over : Bool) (before after : List ℕ) (spent : Bool) (answers : List Answer) : Type 0 where
  pub parts : List CertQuery
  pub paid : PaysCertificates f before after parts
  pub of_these : All (λ (q : CertQuery). q.system < length answers) parts
  pub still : over ≡ true → spent ≡ true
  pub each : (j : ℕ) → j < length answers → AnswersAt effort f over parts spent answers j

-- this is answered of system j, the next one
abbrev pub AnswersNext : Effort → FrameState → Bool → ℕ → List ℕ → Bool → List ℕ → Bool → Answer → Type 0
AnswersNext effort f over j old was new now a =
    (start : List ℕ) (answers : List Answer) → length answers ≡ j → AreAnswered effort f over start old was answers →
    AreAnswered effort f over start new now (answers ++ a ∷ [])
