-- What is answered of a formula, and why an answer may be unknown.
use Rattle.std.specs.Prelude.{◌≡◌, ◌⊎◌, ℕ, ◌+◌, ◌≤◌, List, [], ◌∷◌, ◌++◌, length, All, Some}
use Rattle.clause_core.specs.declared.literal.Lit.{Lit}
use Rattle.clause_core.specs.Systems.{TransitionSystem, Gives}
use Rattle.cert_core.specs.Blocks.{Block}
use Rattle.cert_core.specs.Certificates.{Certifies}
use Rattle.sat_core.specs.Paying.{tickets_in}
use Rattle.frame_history.specs.declared.entries.Limits.{Limits}
use Rattle.frame_history.specs.History.{HasVerdict}
use Rattle.frame_history.specs.Limits.{WasAtLimit}
use Rattle.ltl_meaning.specs.Ltl.{Ltl, past_height}
use Rattle.ltl_monitor.specs.States.{IsMonitor}
use Rattle.ltl_monitor.specs.Counted.{IsCounted}
use Rattle.ltl_monitor.specs.Runs.{SignalRun, SignalsWithin}
use Rattle.ltl_lassos.specs.Violating.{NeverViolated, NeverViolatedWithin, AreViolating}
use Rattle.prove_run.specs.declared.answers.Work.{Work}
use Rattle.prove_run.specs.Answers.{IsLeftOpen}
use Rattle.prove_run.specs.Certifying.{CertQuery, PaysCertificates}
use Rattle.prove_run.specs.Certifying.{queries_of as part_queries}
use Rattle.prove_ltl.specs.declared.effort.LtlEffort.{LtlEffort}
use Rattle.prove_ltl.specs.declared.answers.LtlAnswer.{LtlAnswer}
use Rattle.prove_ltl.specs.declared.answers.LtlAnswer.TheVariants.{True, False, Unknown}
use Rattle.prove_ltl.specs.declared.answers.LtlCause.{LtlCause}
use Rattle.prove_ltl.specs.declared.answers.LtlCause.TheVariants.{Conflicts, Bound, Frames}
use Rattle.prove_ltl.specs.Lengths.{LengthQuery, PaysLengths, HasNoneUpTo, IsSearchOpen, queries_of}
use Rattle.prove_ltl.specs.Rungs.{Rung, AreRungs, IsPassed, first_of, frames_of, tickets_of, histories_of, histories_in}

abbrev pub limits_of : LtlEffort → Limits
limits_of effort = record { frames = effort.frames }

-- what was done: the monitored system; the queries for its lassos, the learned clauses that later ones might use, and the tickets that were
-- drawn for them; and the histories of the counters 0, 1, ..
pub record LtlLog : Type 0 where
  pub monitored : TransitionSystem
  pub lassos : List LengthQuery
  pub known : List (List Lit)
  pub asked : List ℕ
  pub rungs : List Rung

-- so it was: lassos first, then one counter after another, where the first begins with no lemma
pub record IsLtlLog (sys : TransitionSystem) (f : Ltl) (atoms : List Lit) (effort : LtlEffort) (log : LtlLog) : Type 0 where
  pub monitor : IsMonitor sys f atoms log.monitored
  pub gives : Gives log.monitored.state_bits log.monitored.fair log.monitored.defs
  pub searched : PaysLengths log.monitored effort.bound log.known log.asked log.lassos
  pub climbed : AreRungs log.monitored (limits_of effort) 0 [] log.rungs

-- the last counter is r, and each before it was passed, after no lasso was found
pub record IsLast (effort : LtlEffort) (log : LtlLog) (earlier : List Rung) (r : Rung) : Type 0 where
  pub none : HasNoneUpTo log.monitored effort.bound
  pub rungs : log.rungs ≡ earlier ++ r ∷ []
  pub passed : All (IsPassed (limits_of effort)) earlier

-- the last counter's frames tell no verdict, or they tell an invariant, and its certificate lacks a part; its queries were paid for by what
-- was drawn after the lengths and counters
pub record IsClimbOpen (effort : LtlEffort) (log : LtlLog) (parts : List CertQuery) : Type 0 where
  pub earlier : List Rung
  pub here : Rung
  pub last : IsLast effort log earlier here
  pub left : IsLeftOpen (frames_of (limits_of effort) here) parts 0
  pub before : List ℕ
  pub after : List ℕ
  pub count : length before ≡ length log.asked + tickets_of log.rungs
  pub certified : PaysCertificates (frames_of (limits_of effort) here) before after parts

-- as many tickets as the effort has were drawn: for lassos, for the counters' claims, and for parts of a certificate. They left open a length
-- of lassos, before any counter, or the last counter.
pub record IsLtlSpent (effort : LtlEffort) (log : LtlLog) : Type 0 where
  pub parts : List CertQuery
  pub left_open : (IsSearchOpen log.monitored effort.bound log.lassos × (log.rungs ≡ []) × (parts ≡ [])) ⊎ IsClimbOpen effort log parts
  pub all : tickets_in (queries_of log.lassos) + tickets_of log.rungs + tickets_in (part_queries parts) ≡ effort.conflicts

-- k is 0, or some monitored run has at least k signals
abbrev pub HasSignals : TransitionSystem → Ltl → List Lit → ℕ → Type 0
HasSignals sys f atoms k = (k ≡ 0) ⊎ ((n : ℕ) × SignalRun sys f atoms n k)

-- the frames of counter k met their limit: they tell no verdict, some entry left them with a top past the limit and steps out of each frame up
-- to it, and no monitored run of at most so many steps has more than k signals
pub record IsLimitMet (sys : TransitionSystem) (f : Ltl) (atoms : List Lit) (effort : LtlEffort) (log : LtlLog) (k : ℕ) : Type 0 where
  pub earlier : List Rung
  pub here : Rung
  pub last : IsLast effort log earlier here
  pub number : length earlier ≡ k
  pub undecided : HasVerdict (frames_of (limits_of effort) here) 0 → ⊥
  pub met : WasAtLimit (limits_of effort) (first_of (limits_of effort) here) here.history 0
  pub few : SignalsWithin sys f atoms effort.frames (k + 1) → ⊥

-- Why it is unknown whether a lasso violates the formula. The budget was spent. Or no lasso up to the bound violates it, and some monitored run
-- has more signals than the greatest counter. Or none does, and the frames of some counter, of which some run has so many signals, met their limit.
abbrev pub IsLtlCause : TransitionSystem → Ltl → List Lit → LtlEffort → LtlLog → LtlCause → Type 0
IsLtlCause sys f atoms effort log (Conflicts drawn budget) =
    (drawn ≡ effort.conflicts) × (budget ≡ effort.conflicts) × IsLtlSpent effort log
IsLtlCause sys f atoms effort log (Bound bound counter) =
    (bound ≡ effort.bound) × (counter ≡ effort.counter) × NeverViolatedWithin sys f atoms (past_height f) bound
    × ((n : ℕ) × SignalRun sys f atoms n (counter + 1))
IsLtlCause sys f atoms effort log (Frames bound frames k) =
    (bound ≡ effort.bound) × (frames ≡ effort.frames) × (k ≤ effort.counter) × NeverViolatedWithin sys f atoms (past_height f) bound
    × HasSignals sys f atoms k × IsLimitMet sys f atoms effort log k

-- a certificate shows that the system of some monitor, with a counter up to the one that it names, reaches no bad state
pub record IsLtlCertificate (sys : TransitionSystem) (f : Ltl) (atoms : List Lit) (greatest : ℕ) (cert : Block) : Type 0 where
  pub monitored : TransitionSystem
  pub counted : TransitionSystem
  pub counter : ℕ
  pub monitor : IsMonitor sys f atoms monitored
  pub counts : IsCounted monitored counter counted
  pub certifies : Certifies counted cert
  pub named : cert.counter ≡ Some counter
  pub within : counter ≤ greatest

-- an answer is right: no lasso violates the formula, which the certificate shows; or this one does; or there is this cause
abbrev pub IsLtlRight : TransitionSystem → Ltl → List Lit → LtlEffort → LtlLog → LtlAnswer → Type 0
IsLtlRight sys f atoms effort log (True cert) = NeverViolated sys f atoms × IsLtlCertificate sys f atoms effort.counter cert
IsLtlRight sys f atoms effort log (False lasso) = AreViolating sys f atoms lasso.rows lasso.start
IsLtlRight sys f atoms effort log (Unknown cause) = IsLtlCause sys f atoms effort log cause

-- what was done, whose histories are kept, and a right answer
pub record IsLtlDone (sys : TransitionSystem) (f : Ltl) (atoms : List Lit) (effort : LtlEffort) (works : List Work) (answer : LtlAnswer) : Type 0 where
  pub log : LtlLog
  pub so_it_was : IsLtlLog sys f atoms effort log
  pub kept : histories_in works ≡ histories_of log.rungs
  pub right : IsLtlRight sys f atoms effort log answer
