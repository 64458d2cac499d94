-- What may be claimed, by its subject.
use Rattle.std.specs.Prelude.{◌≡◌, ℕ, ◌+◌, ◌<◌, ◌≤◌, false, length, slice_index_or, None}
use Rattle.frame_core.specs.Changes.{VerdictSays}
use Rattle.clause_core.specs.Assignments.{assignment_of}
use Rattle.frame_core.specs.FrameLaw.{FrameState, top_at, lemma_at, obligation_at}
use Rattle.frame_history.specs.declared.entries.Limits.{Limits}
use Rattle.frame_history.specs.declared.entries.Subject.{Subject}
use Rattle.frame_history.specs.declared.entries.Subject.TheVariants.{Bad, Block, Push}
use Rattle.frame_history.specs.History.{BookState, IsDecided, IsOpenTask, IsNew}
use Rattle.book_agenda.specs.Values.{IsBlockedTo}

-- the purse is not spent, and system j has neither verdict nor limit
pub record IsOpenSystem (s : BookState) (j : ℕ) : Type 0 where
  pub in' : j < length s.frames.systems
  pub unspent : s.spent ≡ false
  pub off : slice_index_or s.limited j false ≡ false
  pub says : VerdictSays s.frames j None
  pub open' : IsDecided s j → ⊥

-- the level at which a subject is claimed
abbrev pub IsLevelOf : FrameState → Subject → ℕ → Type 0
IsLevelOf f (Bad j) level = level ≡ top_at f.tops j
IsLevelOf f (Block o) level = (b : ℕ) × IsBlockedTo f.lemmas b (assignment_of (obligation_at f.obligations o).values) × (level ≡ b + 1)
IsLevelOf f (Push n) level = level ≡ (lemma_at f.lemmas n).level + 1

-- the subject may be claimed at this level, but for whether the history is closed
pub record IsOffered (limits : Limits) (s : BookState) (u : Subject) (level : ℕ) : Type 0 where
  pub task : IsOpenTask limits s u level
  pub new : IsNew s u level
  pub level' : IsLevelOf s.frames u level

-- the subject may be claimed at no level
abbrev pub IsNotOffered : Limits → BookState → Subject → Type 0
IsNotOffered limits s u = (level : ℕ) → IsOpenTask limits s u level → IsNew s u level → ⊥

-- neither its bad states nor an obligation of system j may be claimed
abbrev pub HasNoTask : Limits → BookState → ℕ → Type 0
HasNoTask limits s j =
    IsNotOffered limits s (Bad j)
    × ((o : ℕ) → o < length s.frames.obligations → (obligation_at s.frames.obligations o).system ≡ j → IsNotOffered limits s (Block o))

-- the greatest top
pub record IsGreatest (f : FrameState) (top : ℕ) : Type 0 where
  pub each : (j : ℕ) → j < length f.systems → top_at f.tops j ≤ top
  pub one : (j : ℕ) × (j < length f.systems) × (top_at f.tops j ≡ top)
