-- What stands of claims that were settled since a lemma was last added or raised.
use Rattle.std.specs.Prelude.{◌≡◌, ◌⊎◌, ℕ, ◌+◌, ◌-◌, ◌<◌, ◌≤◌, Bool, true, false, List, length, slice_index_or, slice_set, Some}
use Rattle.clause_core.specs.Assignments.{assignment_of}
use Rattle.frame_core.specs.FrameLaw.{FrameState, system_at, top_at, obligation_at, InFrame, IsAsHigh}
use Rattle.frame_history.specs.declared.entries.Limits.{Limits}
use Rattle.frame_history.specs.declared.entries.Subject.{Subject}
use Rattle.frame_history.specs.declared.entries.Subject.TheVariants.{Bad, Block, Push}
use Rattle.frame_history.specs.declared.entries.Made.{Made}
use Rattle.frame_history.specs.declared.entries.Change.{Change}
use Rattle.frame_history.specs.declared.entries.Change.TheVariants.{Add, Raise, Held, Retire, Behind, Dropped, Note, Open, PushFailed, Limit}
use Rattle.frame_history.specs.declared.entries.Change.TheVariants as change
use Rattle.frame_history.specs.History.{BookState, claim_at, IsLimitLeft}

-- obligation o is of system j, and its state is in frame i
abbrev pub HasInFrame : FrameState → ℕ → ℕ → ℕ → Type 0
HasInFrame f j i o =
    (o < length f.obligations) × ((obligation_at f.obligations o).system ≡ j)
    × InFrame (system_at f.systems j) f.lemmas i (assignment_of (obligation_at f.obligations o).values)

-- the top is another, or a bad state of the frame was noted; the state is not in the frame, or one before it was noted; the lemma is as
-- high or retired, or a push from its level failed
abbrev pub IsBacked : FrameState → List Bool → Subject → ℕ → Type 0
IsBacked f failed (Bad j) level = (level < top_at f.tops j) ⊎ ((o : ℕ) × HasInFrame f j level o)
IsBacked f failed (Block o) level =
    (InFrame (system_at f.systems (obligation_at f.obligations o).system) f.lemmas level (assignment_of (obligation_at f.obligations o).values) → ⊥)
    ⊎ ((p : ℕ) × HasInFrame f (obligation_at f.obligations o).system (level - 1) p)
IsBacked f failed (Push n) level = IsAsHigh f.lemmas n level ⊎ (slice_index_or failed (level - 1) false ≡ true)

-- the level of a claim is within the limits
abbrev pub IsWithin : Limits → Subject → ℕ → Type 0
IsWithin limits (Bad j) level = level ≤ limits.frames
IsWithin limits (Block o) level = level ≤ limits.frames
IsWithin limits (Push n) level = level ≤ limits.frames + 1

-- the purse is spent
abbrev pub spends : Change → Bool
spends (Add clause level parents) = false
spends (Raise n level parents) = false
spends (Held n clause level) = false
spends (Retire n) = false
spends (Behind lag) = false
spends Dropped = false
spends (Note j values parent first) = false
spends (Open j) = false
spends (PushFailed n level) = false
spends (Limit j) = false
spends change.Spent = true

-- the levels from which a push failed, after a change that is no growth
abbrev pub failed_after : List Bool → Change → List Bool
failed_after failed (PushFailed n level) = slice_set failed level true
failed_after failed (Add clause level parents) = failed
failed_after failed (Raise n level parents) = failed
failed_after failed (Held n clause level) = failed
failed_after failed (Retire n) = failed
failed_after failed (Behind lag) = failed
failed_after failed Dropped = failed
failed_after failed (Note j values parent first) = failed
failed_after failed (Open j) = failed
failed_after failed (Limit j) = failed
failed_after failed change.Spent = failed

-- what is kept, so that some claim is lawful where none is out and not all is decided
pub record AreBacked (limits : Limits) (s : BookState) : Type 0 where
  pub tops : (j : ℕ) → top_at s.frames.tops j ≤ limits.frames + 1
  pub flags : length s.failed ≡ limits.frames + 1
  pub noted : (j : ℕ) → IsLimitLeft limits s j → ⊥
  pub few : (n : ℕ) (c : Made) → claim_at s.claims n ≡ Some c → IsWithin limits c.subject c.level
  pub settled : (n : ℕ) (c : Made) → claim_at s.claims n ≡ Some c → c.out ≡ false → c.void ≡ false → c.growth ≡ s.growth →
      (s.spent ≡ true) ⊎ IsBacked s.frames s.failed c.subject c.level
