-- What a settlement does to the frames, and to what is kept beside them.
use Rattle.std.specs.Prelude.{◌≡◌, ◌≢◌, ℕ, ◌<◌, ◌≤◌, Bool, true, false, List, [], ◌∷◌, ◌++◌, length}
use Rattle.frame_core.specs.declared.parts.Lemma.{Lemma}
use Rattle.frame_core.specs.Facts.{IsPart}
use Rattle.frame_core.specs.FrameLaw.{FrameState, lemma_at}
use Rattle.frame_core.specs.Changes.{with_lemma, with_level, with_retired, with_top, IsCovered}
use Rattle.frame_history.specs.declared.entries.Made.{Made}
use Rattle.frame_history.specs.declared.entries.Change.{Change}
use Rattle.frame_history.specs.declared.entries.Change.TheVariants.{Add, Raise, Held, Retire, Behind, Dropped, Note, Open, PushFailed, Limit}
use Rattle.frame_history.specs.declared.entries.Change.TheVariants as change
use Rattle.frame_history.specs.History.{Accepts}
use Rattle.frame_book.specs.declared.claim.ClaimOutcome.{ClaimOutcome}
use Rattle.frame_book.specs.Outcomes.{ComesOf}

-- the frames after a change
abbrev pub framed : FrameState → Change → FrameState
framed f (Add clause level parents) = with_lemma f clause level
framed f (Raise n level parents) = with_level f n level
framed f (Held n clause level) = f
framed f (Retire n) = with_retired f n
framed f (Behind lag) = f
framed f Dropped = f
framed f (Note j values parent first) =
    record f { obligations = f.obligations ++ record { system = j; values = values; parent = parent; first = first } ∷ [] }
framed f (Open j) = with_top f j
framed f (PushFailed n level) = f
framed f (Limit j) = f
framed f change.Spent = f

-- a lemma is added or raised
abbrev pub grows : Change → Bool
grows (Add clause level parents) = true
grows (Raise n level parents) = true
grows (Held n clause level) = false
grows (Retire n) = false
grows (Behind lag) = false
grows Dropped = false
grows (Note j values parent first) = false
grows (Open j) = false
grows (PushFailed n level) = false
grows (Limit j) = false
grows change.Spent = false

-- a lemma is added
abbrev pub adds : Change → Bool
adds (Add clause level parents) = true
adds (Raise n level parents) = false
adds (Held n clause level) = false
adds (Retire n) = false
adds (Behind lag) = false
adds Dropped = false
adds (Note j values parent first) = false
adds (Open j) = false
adds (PushFailed n level) = false
adds (Limit j) = false
adds change.Spent = false

-- the change says that the outcome was behind
abbrev pub lags : Change → Bool
lags (Behind lag) = true
lags (Add clause level parents) = false
lags (Raise n level parents) = false
lags (Held n clause level) = false
lags (Retire n) = false
lags Dropped = false
lags (Note j values parent first) = false
lags (Open j) = false
lags (PushFailed n level) = false
lags (Limit j) = false
lags change.Spent = false

-- one change comes of a claim and its outcome
pub record Comes (f : FrameState) (c : Made) (o : ClaimOutcome) (d : Change) (f' : FrameState) : Type 0 where
  pub accepted : Accepts f c d
  pub tells : ComesOf o d
  pub changes : f' ≡ framed f d

-- the first change
abbrev pub head_of : List Change → Change
head_of [] = Dropped
head_of (d ∷ ds) = d

-- lemmas that others cover are retired, one after another
abbrev pub Retires : FrameState → List Change → FrameState → Type 0
Retires f [] f' = f' ≡ f
Retires f (Retire n ∷ ds) f' = (n < length f.lemmas) × ((lemma_at f.lemmas n).live ≡ true) × IsCovered f n × Retires (with_retired f n) ds f'
Retires f (d ∷ ds) f' = ⊥

-- lemma m, another than lemma n, has a part of its literals and at least its level
abbrev pub IsCoveredBy : List Lemma → ℕ → ℕ → Type 0
IsCoveredBy lemmas m n =
    (n < length lemmas) × (m ≢ n) × IsPart (lemma_at lemmas m).clause (lemma_at lemmas n).clause
    × ((lemma_at lemmas n).level ≤ (lemma_at lemmas m).level)

-- the same lemmas, though others of them may be live
pub record AreSameLemmas (before now : List Lemma) : Type 0 where
  pub as_many : length now ≡ length before
  pub clause : (n : ℕ) → (lemma_at now n).clause ≡ (lemma_at before n).clause
  pub level : (n : ℕ) → (lemma_at now n).level ≡ (lemma_at before n).level

-- one change comes of a claim and its outcome, and lemmas are retired after it
abbrev pub HasSettled : FrameState → Made → ClaimOutcome → List Change → FrameState → Type 0
HasSettled f c o [] f' = ⊥
HasSettled f c o (d ∷ ds) f' = (g : FrameState) × Comes f c o d g × Retires g ds f'
