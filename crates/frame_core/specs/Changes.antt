-- What the calls on the frames answer and change.
use Rattle.std.specs.Prelude.{◌≡◌, ◌≢◌, ℕ, ◌+◌, ◌-◌, ◌<◌, ◌≤◌, Bool, true, false, List, [], ◌∷◌, ◌++◌, length, slice_set, replicate, Option, Some, None, is_none}
use Rattle.clause_core.specs.declared.literal.Lit.{Lit}
use Rattle.clause_core.specs.Assignments.{assignment_of}
use Rattle.clause_core.specs.Systems.{TransitionSystem, FirstBits, StepBits, NextIs}
use Rattle.frame_core.specs.declared.parts.Lemma.{Lemma}
use Rattle.frame_core.specs.declared.outcomes.Insertion.{Insertion}
use Rattle.frame_core.specs.declared.outcomes.Insertion.TheVariants as insertion
use Rattle.frame_core.specs.declared.outcomes.Raising.{Raising}
use Rattle.frame_core.specs.declared.outcomes.Raising.TheVariants as raising
use Rattle.frame_core.specs.declared.outcomes.Opening.{Opening}
use Rattle.frame_core.specs.declared.outcomes.Opening.TheVariants as opening
use Rattle.frame_core.specs.declared.outcomes.Noting.{Noting}
use Rattle.frame_core.specs.declared.outcomes.Noting.TheVariants as noting
use Rattle.frame_core.specs.declared.outcomes.FramesVerdict.{FramesVerdict}
use Rattle.frame_core.specs.declared.outcomes.FramesVerdict.TheVariants.{Invariant, Reached}
use Rattle.frame_core.specs.Facts.{ProvedClause, ClearLevel, FoundState}
use Rattle.frame_core.specs.FrameLaw.{FrameState, system_at, top_at, lemma_at, obligation_at, Covers, AllStand, IsInvariant, IsAsHigh, raised_at, retired_at}
use Rattle.frame_core.specs.Looking.{IsBehind, IsHeldBy, IsHeldByNone}
use Rattle.frame_core.specs.Differences.{IsSameSystem, DifferAt}

-- the fact's system is the frames' system j, but for bad states where `with_bad` is false
abbrev pub IsOfSystem : FrameState → ℕ → Bool → TransitionSystem → Type 0
IsOfSystem f j with_bad sys = IsSameSystem with_bad (system_at f.systems j) sys

-- the frames with one lemma more
abbrev pub with_lemma : FrameState → List Lit → ℕ → FrameState
with_lemma f clause level = record f { lemmas = f.lemmas ++ record { clause = clause; level = level; live = true } ∷ [] }

-- a clause of the frames' own systems is inserted; but for Added the frames are as before
abbrev pub InsertsSame : FrameState → ProvedClause → Insertion → FrameState → Type 0
InsertsSame before p (insertion.Added n) after =
    IsHeldByNone before.lemmas p.clause p.level
    × AllStand before.lemmas (p.level - 1) p.parents × (n ≡ length before.lemmas) × (after ≡ with_lemma before p.clause p.level)
InsertsSame before p (insertion.Held n) after = IsHeldBy before.lemmas p.clause p.level n × (after ≡ before)
InsertsSame before p (insertion.Behind k level) after =
    IsHeldByNone before.lemmas p.clause p.level × IsBehind before.lemmas (p.level - 1) p.parents k level × (after ≡ before)
InsertsSame before p (insertion.OtherSystem place) after = ⊥

-- a clause is inserted; where it is of another system the frames are as before
abbrev pub Inserts : FrameState → ProvedClause → Insertion → FrameState → Type 0
Inserts before p (insertion.Added n) after = IsOfSystem before 0 false p.system × InsertsSame before p (insertion.Added n) after
Inserts before p (insertion.Held n) after = IsOfSystem before 0 false p.system × InsertsSame before p (insertion.Held n) after
Inserts before p (insertion.Behind k level) after = IsOfSystem before 0 false p.system × InsertsSame before p (insertion.Behind k level) after
Inserts before p (insertion.OtherSystem place) after = DifferAt false (system_at before.systems 0) p.system place × (after ≡ before)

-- the frames with lemma n at this level
abbrev pub with_level : FrameState → ℕ → ℕ → FrameState
with_level f n level = record f { lemmas = raised_at f.lemmas n level }

-- the lemma is retired, or has at least this level
abbrev pub NeedsNoRaise : FrameState → ℕ → ℕ → Type 0
NeedsNoRaise f n level = IsAsHigh f.lemmas n level

-- a lemma is raised by a proof of the frames' own systems; but for Raised the frames are as before
abbrev pub RaisesSame : FrameState → ℕ → ProvedClause → Raising → FrameState → Type 0
RaisesSame before n p raising.Raised after =
    (NeedsNoRaise before n p.level → ⊥) × AllStand before.lemmas (p.level - 1) p.parents × (after ≡ with_level before n p.level)
RaisesSame before n p raising.Dropped after = NeedsNoRaise before n p.level × (after ≡ before)
RaisesSame before n p (raising.Behind k level) after =
    (NeedsNoRaise before n p.level → ⊥) × IsBehind before.lemmas (p.level - 1) p.parents k level × (after ≡ before)
RaisesSame before n p (raising.OtherSystem place) after = ⊥

-- a lemma is raised; where the proof is of another system the frames are as before
abbrev pub Raises : FrameState → ℕ → ProvedClause → Raising → FrameState → Type 0
Raises before n p raising.Raised after = IsOfSystem before 0 false p.system × RaisesSame before n p raising.Raised after
Raises before n p raising.Dropped after = IsOfSystem before 0 false p.system × RaisesSame before n p raising.Dropped after
Raises before n p (raising.Behind k level) after = IsOfSystem before 0 false p.system × RaisesSame before n p (raising.Behind k level) after
Raises before n p (raising.OtherSystem place) after = DifferAt false (system_at before.systems 0) p.system place × (after ≡ before)

-- the frames with lemma n retired
abbrev pub with_retired : FrameState → ℕ → FrameState
with_retired f n = record f { lemmas = retired_at f.lemmas n }

-- another live lemma covers lemma n
abbrev pub IsCovered : FrameState → ℕ → Type 0
IsCovered f n = (m : ℕ) × (m < length f.lemmas) × (m ≢ n) × Covers (lemma_at f.lemmas m) (lemma_at f.lemmas n)

-- the frames with the top of j one more
abbrev pub with_top : FrameState → ℕ → FrameState
with_top f j = record f { tops = slice_set f.tops j (top_at f.tops j + 1) }

-- the top of j is opened by a proof of system j; but for Opened the frames are as before
abbrev pub OpensSame : FrameState → ℕ → ClearLevel → Opening → FrameState → Type 0
OpensSame before j c opening.Opened after =
    (c.level ≡ top_at before.tops j) × AllStand before.lemmas (top_at before.tops j) c.parents × (after ≡ with_top before j)
OpensSame before j c opening.Dropped after = (c.level ≢ top_at before.tops j) × (after ≡ before)
OpensSame before j c (opening.Behind k level) after =
    (c.level ≡ top_at before.tops j) × IsBehind before.lemmas (top_at before.tops j) c.parents k level × (after ≡ before)
OpensSame before j c (opening.OtherSystem place) after = ⊥

-- the top of j is opened; where the proof is of another system the frames are as before
abbrev pub Opens : FrameState → ℕ → ClearLevel → Opening → FrameState → Type 0
Opens before j c opening.Opened after = IsOfSystem before j true c.system × OpensSame before j c opening.Opened after
Opens before j c opening.Dropped after = IsOfSystem before j true c.system × OpensSame before j c opening.Dropped after
Opens before j c (opening.Behind k level) after = IsOfSystem before j true c.system × OpensSame before j c (opening.Behind k level) after
Opens before j c (opening.OtherSystem place) after = DifferAt true (system_at before.systems j) c.system place × (after ≡ before)

-- the state found may be an obligation of j with this parent: a bad state has none, and a step ends in the state of the
-- parent, which is of j
abbrev pub MayHaveParent : FrameState → ℕ → FoundState → Option ℕ → Type 0
MayHaveParent before j f None = f.is_step ≡ false
MayHaveParent before j f (Some p) =
    (f.is_step ≡ true) × (p < length before.obligations) × ((obligation_at before.obligations p).system ≡ j)
    × NextIs f.system.state_bits (assignment_of f.values) (assignment_of (obligation_at before.obligations p).values)

-- the frames with one obligation more
abbrev pub with_obligation : FrameState → ℕ → FoundState → Option ℕ → FrameState
with_obligation f j g parent =
    record f { obligations = f.obligations ++ record { system = j; values = g.values; parent = parent; first = g.first } ∷ [] }

-- an obligation of j, found in system j, is noted
abbrev pub NotesSame : FrameState → ℕ → FoundState → Option ℕ → Noting → FrameState → Type 0
NotesSame before j f parent (noting.Noted n) after = (n ≡ length before.obligations) × (after ≡ with_obligation before j f parent)
NotesSame before j f parent (noting.OtherSystem place) after = ⊥

-- an obligation of j is noted; where it is of another system the frames are as before
abbrev pub Notes : FrameState → ℕ → FoundState → Option ℕ → Noting → FrameState → Type 0
Notes before j f parent (noting.Noted n) after =
    IsOfSystem before j (is_none parent) f.system × NotesSame before j f parent (noting.Noted n) after
Notes before j f parent (noting.OtherSystem place) after =
    DifferAt (is_none parent) (system_at before.systems j) f.system place × (after ≡ before)

-- cut to the bits of the old system's states, initial states and steps of the new one are among those of the old one
pub record IsCut (old new : TransitionSystem) : Type 0 where
  pub bits : old.state_bits ≤ new.state_bits
  pub first : (x : ℕ → Bool) → FirstBits new x → FirstBits old x
  pub step : (x y : ℕ → Bool) → StepBits new x y → StepBits old x y

-- the frames of these systems with these lemmas, tops 0 and no obligation
abbrev pub fresh : List TransitionSystem → List Lemma → FrameState
fresh systems lemmas = record { systems = systems; lemmas = lemmas; tops = replicate (length systems) 0; obligations = [] }

-- some live lemma has this level
abbrev pub HasLiveAt : List Lemma → ℕ → Type 0
HasLiveAt lemmas i = (n : ℕ) × (n < length lemmas) × ((lemma_at lemmas n).live ≡ true) × ((lemma_at lemmas n).level ≡ i)

-- no live lemma has this level
abbrev pub HasNoneAt : List Lemma → ℕ → Type 0
HasNoneAt lemmas i = (n : ℕ) → n < length lemmas → (lemma_at lemmas n).live ≡ true → (lemma_at lemmas n).level ≢ i

-- the state of obligation n is an initial one
abbrev pub IsFirstObligation : FrameState → ℕ → Type 0
IsFirstObligation f n =
    FirstBits (system_at f.systems (obligation_at f.obligations n).system) (assignment_of (obligation_at f.obligations n).values)

-- of system j: none, each level from 1 below the top has a live lemma, and no obligation of j is an initial state; an
-- invariant, or an initial state, as said
abbrev pub VerdictSays : FrameState → ℕ → Option FramesVerdict → Type 0
VerdictSays f j None =
    ((i : ℕ) → 0 < i → i < top_at f.tops j → HasLiveAt f.lemmas i)
    × ((n : ℕ) → n < length f.obligations → (obligation_at f.obligations n).system ≡ j → IsFirstObligation f n → ⊥)
VerdictSays f j (Some (Invariant i)) =
    (0 < i) × (i < top_at f.tops j) × HasNoneAt f.lemmas i × IsInvariant (system_at f.systems j) f.lemmas (i + 1)
VerdictSays f j (Some (Reached n)) = (n < length f.obligations) × ((obligation_at f.obligations n).system ≡ j) × IsFirstObligation f n
