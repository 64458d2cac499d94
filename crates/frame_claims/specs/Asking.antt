-- What is asked for a claim, and what is answered.
use Rattle.std.specs.Prelude.{◌≡◌, ℕ, ◌+◌, ◌-◌, ◌<◌, Bool, true, false, List, length, All}
use Rattle.clause_core.specs.Assignments.{ClauseTrue, assignment_of}
use Rattle.clause_core.specs.Systems.{FirstBits, NextIs}
use Rattle.frame_core.specs.Facts.{FoundStep, ProvedClause, IsPart}
use Rattle.frame_core.specs.FrameLaw.{system_at, lemma_at, InFrame, AllStand}
use Rattle.frame_history.specs.declared.entries.Subject.{Subject}
use Rattle.frame_history.specs.declared.entries.Subject.TheVariants.{Bad, Block, Push}
use Rattle.frame_solver.specs.Firsts.{AllFirstsMeet}
use Rattle.frame_query.specs.Findings.{SolverView}
use Rattle.frame_solver.specs.Paying.{Question, AskedQuery, Pays, AllDiffer}
use Rattle.frame_solver.specs.Stepping.{IsStepOut}
use Rattle.frame_book.specs.declared.claim.ClaimOutcome.{ClaimOutcome}
use Rattle.frame_book.specs.declared.claim.ClaimOutcome.TheVariants.{Proved, Step, Found, Clear, Spent}
use Rattle.frame_book.specs.Claims.{ClaimView}

-- the question may be asked, no two are equal, and they were paid for
abbrev pub PaysFor : SolverView → SolverView → List ℕ → List ℕ → (Question → Type 0) → Type 0
PaysFor old new before after May =
    (log : List AskedQuery)
    × Pays old.systems old.lemmas old.known new.known before after log
    × AllDiffer log
    × All (λ (a : AskedQuery). May a.question) log

-- bad states of system j in a frame
abbrev pub AnswersBad : SolverView → ℕ → ℕ → Bool → ClaimOutcome → Type 0
AnswersBad v j level over (Found f) =
    (f.system ≡ system_at v.systems j) × (f.is_step ≡ false) × InFrame (system_at v.systems j) v.lemmas level (assignment_of f.values)
AnswersBad v j level over (Clear c) = (c.system ≡ system_at v.systems j) × (c.level ≡ level) × AllStand v.lemmas level c.parents
AnswersBad v j level over (Spent d b) = over ≡ true
AnswersBad v j level over o = ⊥

-- a state that is to be left out of a frame: a clause that it does not meet, or a step to it from the frame below
abbrev pub AnswersBlock : SolverView → List Bool → ℕ → Bool → ClaimOutcome → Type 0
AnswersBlock v values level over (Proved p) =
    (p.system ≡ system_at v.systems 0) × (p.level ≡ level) × (ClauseTrue (assignment_of values) p.clause → ⊥) × AllStand v.lemmas (level - 1) p.parents
AnswersBlock v values level over (Found f) =
    (f.system ≡ system_at v.systems 0) × (f.is_step ≡ true)
    × NextIs (system_at v.systems 0).state_bits (assignment_of f.values) (assignment_of values)
    × InFrame (system_at v.systems 0) v.lemmas (level - 1) (assignment_of f.values)
AnswersBlock v values level over (Spent d b) = over ≡ true
AnswersBlock v values level over o = ⊥

-- a proof of a part of the clause, by lemmas that stand
abbrev pub IsSmaller : SolverView → ProvedClause → ClaimOutcome → Type 0
IsSmaller v p (Proved r) =
    (r.system ≡ p.system) × (r.level ≡ p.level) × IsPart r.clause p.clause × AllStand v.lemmas (p.level - 1) r.parents
IsSmaller v p o = ⊥

-- the state that the step leads from
abbrev pub IsBefore : FoundStep → Bool → ClaimOutcome → Type 0
IsBefore s over (Found f) = f ≡ record { system = s.system; values = s.values; is_step = true; first = f.first }
IsBefore s over (Spent d b) = over ≡ true
IsBefore s over o = ⊥

-- a lemma that is to be pushed to a level: it holds there, or a step from the frame below leaves it
abbrev pub AnswersPush : SolverView → ℕ → ℕ → Bool → ClaimOutcome → Type 0
AnswersPush v n level over (Proved p) =
    (p.system ≡ system_at v.systems 0) × (p.level ≡ level) × (p.clause ≡ (lemma_at v.lemmas n).clause) × AllStand v.lemmas (level - 1) p.parents
AnswersPush v n level over (Step s) =
    (s.system ≡ system_at v.systems 0) × IsStepOut (system_at v.systems 0) v.lemmas level (lemma_at v.lemmas n).clause s.values
AnswersPush v n level over (Spent d b) = over ≡ true
AnswersPush v n level over o = ⊥

-- what a claim asks is there, as the solver has it: its system; a state that is no initial one; the clause of its
-- lemma, one level below
abbrev pub MayBeAsked : SolverView → ClaimView → Subject → Type 0
MayBeAsked v c (Bad j) = j < length v.systems
MayBeAsked v c (Block o) =
    (0 < length v.systems) × (0 < c.level) × (length c.values ≡ (system_at v.systems 0).all_bits)
    × (FirstBits (system_at v.systems 0) (assignment_of c.values) → ⊥)
MayBeAsked v c (Push n) =
    (n < length v.lemmas) × (c.level ≡ (lemma_at v.lemmas n).level + 1) × (c.clause ≡ (lemma_at v.lemmas n).clause)
    × AllFirstsMeet (system_at v.systems 0) (lemma_at v.lemmas n).clause

-- what is answered to a claim
abbrev pub AnswersClaim : SolverView → ClaimView → Subject → Bool → ClaimOutcome → Type 0
AnswersClaim v c (Bad j) over outcome = AnswersBad v j c.level over outcome
AnswersClaim v c (Block o) over outcome = AnswersBlock v c.values c.level over outcome
AnswersClaim v c (Push n) over outcome = AnswersPush v n c.level over outcome
