-- What is kept beside the frames: how many live lemmas each level has, and the first obligation that is an initial
-- state.
use Rattle.std.specs.Prelude.{◌≡◌, ◌==◌, ◌&&◌, ℕ, ◌+◌, ◌-◌, ◌<◌, ◌≤◌, Bool, true, false, List, length, slice_index, slice_index_or, slice_set, count_by, Option, Some, None}
use Rattle.frame_core.specs.declared.parts.Lemma.{Lemma}
use Rattle.frame_core.specs.declared.parts.Obligation.{Obligation}
use Rattle.frame_core.specs.FrameLaw.{FrameState, FramesHold, top_at, obligation_at}

-- whether the lemma is live and has this level
abbrev pub is_live_at : ℕ → Lemma → Bool
is_live_at i l = l.live && (l.level == i)

-- count i is the number of live lemmas of level i
abbrev pub AreCounts : List Lemma → List ℕ → Type 0
AreCounts lemmas counts = (i : ℕ) → i < length counts → slice_index counts i ≡ count_by (is_live_at i) lemmas

-- the counts with one more at i, where there is a count i
abbrev pub more_at : List ℕ → ℕ → List ℕ
more_at counts i = slice_set counts i (slice_index counts i + 1)

-- the counts with one less at i, where there is a count i and the lemma was live
abbrev pub less_at : Bool → List ℕ → ℕ → List ℕ
less_at true counts i = slice_set counts i (slice_index counts i - 1)
less_at false counts i = counts

-- the mark that is there, else this obligation where it is an initial state
abbrev pub first_of : Option ℕ → Bool → ℕ → Option ℕ
first_of (Some m) first n = Some m
first_of None true n = Some n
first_of None false n = None

-- the marks after obligation n of system j
abbrev pub marked_at : List (Option ℕ) → ℕ → Bool → ℕ → List (Option ℕ)
marked_at marks j first n = slice_set marks j (first_of (slice_index_or marks j None) first n)

-- the mark of system j: an obligation of j that is an initial state, if there is one
abbrev pub IsMark : List Obligation → ℕ → Option ℕ → Type 0
IsMark obligations j None =
    (n : ℕ) → n < length obligations → (obligation_at obligations n).system ≡ j → (obligation_at obligations n).first ≡ false
IsMark obligations j (Some n) =
    (n < length obligations) × ((obligation_at obligations n).system ≡ j) × ((obligation_at obligations n).first ≡ true)

-- each system has its mark
abbrev pub AreMarks : List Obligation → List (Option ℕ) → Type 0
AreMarks obligations marks = (j : ℕ) → j < length marks → IsMark obligations j (slice_index_or marks j None)

-- what the type of the frames keeps
pub record IsKept (f : FrameState) (counts : List ℕ) (marks : List (Option ℕ)) : Type 0 where
  pub law : FramesHold f
  pub counted : AreCounts f.lemmas counts
  pub enough : (j : ℕ) → j < length f.systems → top_at f.tops j ≤ length counts
  pub all_marked : length marks ≡ length f.systems
  pub marked : AreMarks f.obligations marks
