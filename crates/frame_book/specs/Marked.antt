-- What is marked beside the frames.
use Rattle.std.specs.Prelude.{◌≡◌, ℕ, ◌+◌, ◌<◌, ◌≤◌, Bool, true, false, List, [], ◌∷◌, length, slice_index_or, slice_set, replicate}
use Rattle.frame_core.specs.FrameLaw.{FrameState, top_at}
use Rattle.frame_history.specs.declared.entries.Limits.{Limits}
use Rattle.frame_history.specs.declared.entries.Change.{Change}
use Rattle.frame_history.specs.declared.entries.Change.TheVariants.{Add, Raise, Held, Retire, Behind, Dropped, Note, Open, PushFailed, Limit}
use Rattle.frame_history.specs.declared.entries.Change.TheVariants as change
use Rattle.frame_history.specs.History.{BookState}

-- from which levels a push failed, for which systems the limit was met, and whether the purse was spent
pub record Marking : Type 0 where
  pub failed : List Bool
  pub limited : List Bool
  pub spent : Bool

-- no mark from this level on is set
abbrev pub AreClearFrom : ℕ → List Bool → Type 0
AreClearFrom beyond failed = (i : ℕ) → beyond ≤ i → slice_index_or failed i false ≡ false

abbrev pub marks_of : BookState → Marking
marks_of s = record { failed = s.failed; limited = s.limited; spent = s.spent }

-- the marks after a change
abbrev pub marked : Marking → Change → Marking
marked m (Add clause level parents) = record m { failed = replicate (length m.failed) false }
marked m (Raise n level parents) = record m { failed = replicate (length m.failed) false }
marked m (Held n clause level) = m
marked m (Retire n) = m
marked m (Behind lag) = m
marked m Dropped = m
marked m (Note j values parent first) = m
marked m (Open j) = m
marked m (PushFailed n level) = record m { failed = slice_set m.failed level true }
marked m (Limit j) = record m { limited = slice_set m.limited j true }
marked m change.Spent = record m { spent = true }

-- the limit of j is met and was not noted
abbrev pub LimitIsLeft : Limits → FrameState → Marking → ℕ → Type 0
LimitIsLeft limits f m j =
    (j < length f.systems) × (slice_index_or m.limited j false ≡ false)
    × ((top_at f.tops j ≡ limits.frames + 1) × ((i : ℕ) → 0 < i → i ≤ limits.frames → slice_index_or m.failed i false ≡ true))

-- limits that are met are noted, one after another
abbrev pub NotesEach : Limits → FrameState → Marking → List Change → Marking → Type 0
NotesEach limits f m [] m' = m' ≡ m
NotesEach limits f m (Limit j ∷ ds) m' = LimitIsLeft limits f m j × NotesEach limits f (marked m (Limit j)) ds m'
NotesEach limits f m (d ∷ ds) m' = ⊥
