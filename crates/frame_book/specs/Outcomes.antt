-- Which outcomes a claim may have, and which change may come of an outcome.
use Rattle.std.specs.Prelude.{◌≡◌, ℕ, Bool, true, false, List, Contains}
use Rattle.clause_core.specs.Assignments.{ClauseTrue, assignment_of}
use Rattle.clause_core.specs.Systems.{TransitionSystem, NextIs}
use Rattle.frame_core.specs.Differences.{IsSameSystem}
use Rattle.frame_core.specs.Facts.{ProvedClause, ClearLevel, FoundState, FoundStep}
use Rattle.frame_core.specs.FrameLaw.{system_at}
use Rattle.frame_history.specs.declared.entries.Subject.{Subject}
use Rattle.frame_history.specs.declared.entries.Subject.TheVariants.{Bad, Block, Push}
use Rattle.frame_history.specs.declared.entries.Lag.TheVariants as lag
use Rattle.frame_history.specs.declared.entries.Change.{Change}
use Rattle.frame_history.specs.declared.entries.Change.TheVariants.{Add, Raise, Held, Retire, Behind, Dropped, Note, Open, PushFailed, Limit}
use Rattle.frame_history.specs.declared.entries.Change.TheVariants as change
use Rattle.frame_book.specs.declared.claim.ClaimOutcome.{ClaimOutcome}
use Rattle.frame_book.specs.declared.claim.ClaimOutcome.TheVariants.{Proved, Step, Found, Clear, Spent}
use Rattle.frame_book.specs.Claims.{ClaimView}

-- a step of these values ends in the state of the first bits of `next`
abbrev pub EndsIn : FoundState → List Bool → Type 0
EndsIn f next = NextIs f.system.state_bits (assignment_of f.values) (assignment_of next)

-- a step ends outside the clause
abbrev pub Leaves : FoundStep → ClaimView → Type 0
Leaves s v =
    (y : ℕ → Bool) → NextIs s.system.state_bits (assignment_of s.values) y → ClauseTrue y v.clause → ⊥

-- a proof for a claim on this subject: at its level, of a clause that its state does not meet, or of its clause
abbrev pub IsProofFor : List TransitionSystem → ClaimView → Subject → ProvedClause → Type 0
IsProofFor systems v (Bad j) p = ⊥
IsProofFor systems v (Block o) p =
    (p.level ≡ v.level) × (ClauseTrue (assignment_of v.values) p.clause → ⊥) × IsSameSystem false (system_at systems 0) p.system
IsProofFor systems v (Push n) p = (p.level ≡ v.level) × (p.clause ≡ v.clause) × IsSameSystem false (system_at systems 0) p.system

-- a state for a claim on this subject: a bad one, or one with a step to its state
abbrev pub IsFoundFor : List TransitionSystem → ClaimView → Subject → FoundState → Type 0
IsFoundFor systems v (Bad j) f = (f.is_step ≡ false) × IsSameSystem true (system_at systems j) f.system
IsFoundFor systems v (Block o) f = (f.is_step ≡ true) × EndsIn f v.values × IsSameSystem false (system_at systems 0) f.system
IsFoundFor systems v (Push n) f = ⊥

-- a step for a claim on this subject: out of its clause
abbrev pub IsStepFor : List TransitionSystem → ClaimView → Subject → FoundStep → Type 0
IsStepFor systems v (Bad j) s = ⊥
IsStepFor systems v (Block o) s = ⊥
IsStepFor systems v (Push n) s = Leaves s v × IsSameSystem false (system_at systems 0) s.system

-- a level without bad states for a claim on this subject: its level
abbrev pub IsClearFor : List TransitionSystem → ClaimView → Subject → ClearLevel → Type 0
IsClearFor systems v (Bad j) c = (c.level ≡ v.level) × IsSameSystem true (system_at systems j) c.system
IsClearFor systems v (Block o) c = ⊥
IsClearFor systems v (Push n) c = ⊥

-- the outcome is of this subject: of its kind, its level, its state or clause, and of the systems
abbrev pub IsOutcomeOf : List TransitionSystem → ClaimView → Subject → ClaimOutcome → Type 0
IsOutcomeOf systems v u (Proved p) = IsProofFor systems v u p
IsOutcomeOf systems v u (Step s) = IsStepFor systems v u s
IsOutcomeOf systems v u (Found f) = IsFoundFor systems v u f
IsOutcomeOf systems v u (Clear c) = IsClearFor systems v u c
IsOutcomeOf systems v u (Spent drawn budget) = Unit {0}

-- the change tells of this outcome
abbrev pub ComesOf : ClaimOutcome → Change → Type 0
ComesOf (Proved p) (Add clause level parents) = (clause ≡ p.clause) × (level ≡ p.level) × (parents.items ≡ p.parents)
ComesOf (Proved p) (Raise n level parents) = (level ≡ p.level) × (parents.items ≡ p.parents)
ComesOf (Proved p) (Held n clause level) = (clause ≡ p.clause) × (level ≡ p.level)
ComesOf (Proved p) (Behind (lag.Parent parent level)) = Contains p.parents parent
ComesOf (Proved p) Dropped = Unit {0}
ComesOf (Found f) (Note j values parent first) = (values ≡ f.values) × (first ≡ f.first)
ComesOf (Found f) (Behind (lag.State values)) = values ≡ f.values
ComesOf (Found f) Dropped = Unit {0}
ComesOf (Step s) (PushFailed n level) = Unit {0}
ComesOf (Step s) (Behind (lag.State values)) = values ≡ s.values
ComesOf (Clear c) (Open j) = Unit {0}
ComesOf (Clear c) (Behind (lag.Parent parent level)) = Contains c.parents parent
ComesOf (Clear c) Dropped = Unit {0}
ComesOf (Spent drawn budget) change.Spent = Unit {0}
ComesOf o d = ⊥
