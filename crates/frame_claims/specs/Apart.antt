-- Whether claims of a history may be equal.
use Rattle.std.specs.Prelude.{◌≡◌, ℕ, ◌+◌, ◌<◌, ◌≤◌, Bool, true, false, List, [], ◌∷◌, length, slice_index_or, Some}
use Rattle.frame_history.specs.declared.entries.Made.{Made}
use Rattle.frame_history.specs.declared.entries.Change.{Change}
use Rattle.frame_history.specs.declared.entries.Change.TheVariants.{Add, Raise, Held, Retire, Behind, Dropped, Note, Open, PushFailed, Limit, Spent}
use Rattle.frame_history.specs.declared.entries.Entry.{Entry}
use Rattle.frame_history.specs.declared.entries.Entry.TheVariants.{Claim, Settle, Back}
use Rattle.frame_history.specs.History.{BookState, replay, claim_at, is_behind}
use Rattle.frame_claims.specs.Paying.{before}

-- before each entry, and in the end, each void claim is older than the last lemma that was added or raised
abbrev pub VoidsAreOld : BookState → List Entry → Type 0
VoidsAreOld first history =
    (m : ℕ) → m ≤ length history → (n : ℕ) (c : Made) → claim_at (before first history m).claims n ≡ Some c → c.void ≡ true →
    c.growth < (before first history m).growth

-- 1 where the first change adds or raises a lemma
abbrev pub grown_by : List Change → ℕ
grown_by [] = 0
grown_by (Add clause level parents ∷ ds) = 1
grown_by (Raise n level parents ∷ ds) = 1
grown_by (Held n clause level ∷ ds) = 0
grown_by (Retire n ∷ ds) = 0
grown_by (Behind lag ∷ ds) = 0
grown_by (Dropped ∷ ds) = 0
grown_by (Note j values parent first ∷ ds) = 0
grown_by (Open j ∷ ds) = 0
grown_by (PushFailed n level ∷ ds) = 0
grown_by (Limit j ∷ ds) = 0
grown_by (Spent ∷ ds) = 0

-- the number that was noted at entry n is less than this
abbrev pub IsBelow : List ℕ → ℕ → ℕ → Type 0
IsBelow made n growth = slice_index_or made n 0 < growth

-- the entry leads from one growth to the next, and a claim that it makes void is older
abbrev pub Leads : List ℕ → ℕ → Entry → ℕ → Type 0
Leads made growth (Claim worker subject level) now = now ≡ growth
Leads made growth (Settle worker n changes) now =
    (now ≡ growth + grown_by changes.items) × (is_behind changes.items ≡ true → IsBelow made n now)
Leads made growth (Back worker n) now = (now ≡ growth) × IsBelow made n now

-- the growth before each entry of the history, and after the last, and no void claim is too young
pub record IsScanned (first : BookState) (history : List Entry) (made : List ℕ) (growth : ℕ) : Type 0 where
  pub growth_is : (replay first history).growth ≡ growth
  pub many : length made ≡ length history
  pub made_at : (n : ℕ) (c : Made) → claim_at (replay first history).claims n ≡ Some c → slice_index_or made n 0 ≡ c.growth
  pub voids : VoidsAreOld first history

-- the first change says that the purse was spent
abbrev pub says_spent : List Change → Bool
says_spent [] = false
says_spent (Add clause level parents ∷ ds) = false
says_spent (Raise n level parents ∷ ds) = false
says_spent (Held n clause level ∷ ds) = false
says_spent (Retire n ∷ ds) = false
says_spent (Behind lag ∷ ds) = false
says_spent (Dropped ∷ ds) = false
says_spent (Note j values parent first ∷ ds) = false
says_spent (Open j ∷ ds) = false
says_spent (PushFailed n level ∷ ds) = false
says_spent (Limit j ∷ ds) = false
says_spent (Spent ∷ ds) = true

-- the entry settles a claim by an outcome that the purse was spent
abbrev pub notes_spent : Entry → Bool
notes_spent (Claim worker subject level) = false
notes_spent (Settle worker n changes) = says_spent changes.items
notes_spent (Back worker n) = false
