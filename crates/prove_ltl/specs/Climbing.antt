-- One counter after another.
use Rattle.std.specs.Prelude.{◌≡◌, ℕ, ◌+◌, ◌<◌, Bool, true, false, List, [], ◌∷◌, length, All, Option, Some, None}
use Rattle.clause_core.specs.declared.literal.Lit.{Lit}
use Rattle.clause_core.specs.Systems.{TransitionSystem, Gives}
use Rattle.frame_core.specs.declared.parts.Lemma.{Lemma}
use Rattle.frame_core.specs.FrameLaw.{FrameState, system_at}
use Rattle.frame_history.specs.declared.entries.Entry.{Entry}
use Rattle.frame_worker.specs.Exploring.{IsExplored}
use Rattle.ltl_meaning.specs.Ltl.{Ltl}
use Rattle.ltl_monitor.specs.Counted.{IsCounted}
use Rattle.ltl_monitor.specs.States.{IsMonitor}
use Rattle.prove_run.specs.declared.answers.Work.{Work}
use Rattle.prove_run.specs.Answers.{CertifySays}
use Rattle.prove_run.specs.Certifying.{clauses_above}
use Rattle.prove_ltl.specs.declared.effort.LtlEffort.{LtlEffort}
use Rattle.prove_ltl.specs.declared.answers.LtlAnswer.{LtlAnswer}
use Rattle.prove_ltl.specs.declared.answers.LtlAnswer.TheVariants.{True, False, Unknown}
use Rattle.prove_ltl.specs.declared.answers.LtlCause.{LtlCause}
use Rattle.prove_ltl.specs.declared.answers.LtlCause.TheVariants.{Conflicts, Frames}
use Rattle.prove_ltl.specs.declared.answers.LtlDone.{LtlDone}
use Rattle.prove_ltl.specs.declared.counting.Climbed.{Climbed}
use Rattle.prove_ltl.specs.declared.counting.Climbed.TheVariants as climbed
use Rattle.prove_ltl.specs.Early.{is_unknown}
use Rattle.prove_ltl.specs.Lengths.{HasNoneUpTo}
use Rattle.prove_ltl.specs.Rungs.{lemmas_after, tickets_of, histories_of, histories_in, IsPassed}
use Rattle.prove_ltl.specs.LtlAnswers.{LtlLog, IsLtlLog, HasSignals, IsLtlDone, limits_of}

-- the cause where the purse was spent
abbrev pub spent_cause : LtlEffort → LtlCause
spent_cause effort = Conflicts effort.conflicts effort.conflicts

-- why a counter without a verdict leaves the formula unknown
abbrev pub cause_of : Bool → ℕ → LtlEffort → LtlCause
cause_of true k effort = spent_cause effort
cause_of false k effort = Frames effort.bound effort.frames k

-- where the purse was spent, each ticket was drawn
abbrev pub IsUsedUp : LtlEffort → List ℕ → Bool → Type 0
IsUsedUp effort tickets over = over ≡ true → length tickets ≡ effort.conflicts

-- the counters below k were passed, with these lemmas at the end, these histories, and so many tickets drawn
pub record IsClimbing (sys : TransitionSystem) (f : Ltl) (atoms : List Lit) (effort : LtlEffort) (m : TransitionSystem) (log : LtlLog) (k : ℕ)
    (carried : List Lemma) (works : List Work) (tickets : ℕ) : Type 0 where
  pub so_it_was : IsLtlLog sys f atoms effort log
  pub of : log.monitored ≡ m
  pub own : Gives sys.state_bits sys.fair sys.defs
  pub count : length log.rungs ≡ k
  pub lemmas : lemmas_after (limits_of effort) [] log.rungs ≡ carried
  pub drawn : length log.asked + tickets_of log.rungs ≡ tickets
  pub passed : All (IsPassed (limits_of effort)) log.rungs
  pub signals : HasSignals sys f atoms k
  pub kept : histories_in works ≡ histories_of log.rungs

-- whatever formula's monitored system it is, the answer is right
abbrev pub IsDoneFor : TransitionSystem → LtlEffort → TransitionSystem → LtlDone → Type 0
IsDoneFor sys effort m d =
    (f : Ltl) (atoms : List Lit) → IsMonitor sys f atoms m → IsLtlDone sys f atoms effort d.work.items d.answer

-- after these tickets the lengths were searched: there is an answer, right if it is known or all tickets were drawn; or
-- none has a fair lasso, and the first counter comes next
abbrev pub Begins : TransitionSystem → LtlEffort → TransitionSystem → List ℕ → Bool → Option LtlDone → Type 0
Begins sys effort m tickets over (Some d) = (is_unknown d.answer ≡ true → IsUsedUp effort tickets over) → IsDoneFor sys effort m d
Begins sys effort m tickets over None =
    HasNoneUpTo m effort.bound
    × ((f : Ltl) (atoms : List Lit) → IsMonitor sys f atoms m → (log : LtlLog) × IsClimbing sys f atoms effort m log 0 [] [] (length tickets))

-- whatever formula's monitored system it is, the answer is right where counter k began like this; an unknown one, where
-- no length up to the bound has a fair lasso either
abbrev pub Settles : LtlEffort → TransitionSystem → ℕ → List Lemma → List Work → ℕ → LtlDone → Type 0
Settles effort m k carried works tickets d =
    (sys : TransitionSystem) (f : Ltl) (atoms : List Lit) (log : LtlLog) → IsClimbing sys f atoms effort m log k carried works tickets →
    (is_unknown d.answer ≡ true → HasNoneUpTo m effort.bound) → IsLtlDone sys f atoms effort d.work.items d.answer

-- a certificate, with this counter; or the purse was spent before it was made
abbrev pub Shows : LtlEffort → FrameState → ℕ → ℕ → List ℕ → List ℕ → Bool → LtlAnswer → Type 0
Shows effort f level k before after over (True cert) =
    CertifySays (system_at f.systems 0) (clauses_above level f.lemmas) (Some k) before after over (Some cert)
Shows effort f level k before after over (False lasso) = ⊥
Shows effort f level k before after over (Unknown cause) =
    CertifySays (system_at f.systems 0) (clauses_above level f.lemmas) (Some k) before after over None × (cause ≡ spent_cause effort)

-- what came of counter k, of this system: an answer that is right; or the counter was passed, and the next one begins with these lemmas
abbrev pub Climbs : LtlEffort → TransitionSystem → ℕ → List TransitionSystem → List Lemma → List Work → ℕ → ℕ → Climbed → Type 0
Climbs effort m k systems carried works before after (climbed.Done done) = Settles effort m k carried works before done
Climbs effort m k systems carried works before after (climbed.Passed frames now) =
    (k < effort.counter) × (frames.systems ≡ systems)
    × ((sys : TransitionSystem) (f : Ltl) (atoms : List Lit) (log : LtlLog) → IsClimbing sys f atoms effort m log k carried works before →
    (next : LtlLog) × IsClimbing sys f atoms effort m next (k + 1) frames.lemmas now.items after)

-- what came of counter k, whatever system and lemmas its frames were explored from
abbrev pub ClimbsBy : LtlEffort → TransitionSystem → ℕ → List Entry → FrameState → Bool → List Work → List ℕ → List ℕ → Bool → Climbed → Type 0
ClimbsBy effort m k history f over works before after late c =
    (system : TransitionSystem) (carried : List Lemma) (old : ℕ) → IsCounted m k system →
    IsExplored (system ∷ []) (limits_of effort) carried history f old (length before) over → IsUsedUp effort after late →
    Climbs effort m k (system ∷ []) carried works old (length after) c
