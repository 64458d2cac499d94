-- How far a state is blocked: the greatest level of a lemma that it does not meet.
use Rattle.std.specs.Prelude.{◌≡◌, ◌⊎◌, ℕ, ◌<◌, ◌≤◌, ◌+◌, ◌*◌, Bool, true, List, length, slice_index_or}
use Rattle.clause_core.specs.Assignments.{ClauseTrue, assignment_of}
use Rattle.frame_core.specs.declared.parts.Lemma.{Lemma}
use Rattle.frame_core.specs.declared.parts.Obligation.{Obligation}
use Rattle.frame_core.specs.FrameLaw.{FrameState, lemma_at, obligation_at}
use Rattle.book_agenda.specs.Tables.{Table, HoldsClauses, HoldsStates}

-- x meets each of the first lemmas above this level, and does not meet one of this level, where that is not 0
pub record IsBlockedBelow (lemmas : List Lemma) (bound : ℕ) (level : ℕ) (x : ℕ → Bool) : Type 0 where
  pub above : (n : ℕ) → n < bound → level < (lemma_at lemmas n).level → ClauseTrue x (lemma_at lemmas n).clause
  pub at' : (level ≡ 0) ⊎ ((n : ℕ) × (n < bound) × ((lemma_at lemmas n).level ≡ level) × (ClauseTrue x (lemma_at lemmas n).clause → ⊥))

-- the same of all lemmas
abbrev pub IsBlockedTo : List Lemma → ℕ → (ℕ → Bool) → Type 0
IsBlockedTo lemmas level x = IsBlockedBelow lemmas (length lemmas) level x

-- x meets each live one of the first lemmas above this level, and does not meet one of this level, where that is not 0
pub record IsBlockedLive (lemmas : List Lemma) (bound : ℕ) (level : ℕ) (x : ℕ → Bool) : Type 0 where
  pub above : (n : ℕ) → n < bound → (lemma_at lemmas n).live ≡ true → level < (lemma_at lemmas n).level → ClauseTrue x (lemma_at lemmas n).clause
  pub at' : (level ≡ 0) ⊎ ((n : ℕ) × (n < bound) × ((lemma_at lemmas n).level ≡ level) × (ClauseTrue x (lemma_at lemmas n).clause → ⊥))

-- x meets the lemma, if it is live and of this level or more
abbrev pub MeetsAt : Lemma → ℕ → (ℕ → Bool) → Type 0
MeetsAt lemma level x = lemma.live ≡ true → level ≤ lemma.level → ClauseTrue x lemma.clause

-- x meets each live lemma of this level or more
abbrev pub MeetsLive : List Lemma → ℕ → (ℕ → Bool) → Type 0
MeetsLive lemmas level x = (n : ℕ) → n < length lemmas → (lemma_at lemmas n).live ≡ true → level ≤ (lemma_at lemmas n).level → ClauseTrue x (lemma_at lemmas n).clause

-- the level to which obligation o is blocked
abbrev pub blocked_at : List ℕ → ℕ → ℕ
blocked_at blocked o = slice_index_or blocked o 0

-- each obligation's state is blocked to the level that is kept for it
pub record AreBlocked (lemmas : List Lemma) (obligations : List Obligation) (blocked : List ℕ) : Type 0 where
  pub as_many : length blocked ≡ length obligations
  pub each : (o : ℕ) → o < length obligations → IsBlockedTo lemmas (blocked_at blocked o) (assignment_of (obligation_at obligations o).values)

-- with one more lemma the level is that of the lemma, where x does not meet it and it is higher, and else as before
abbrev pub IsLifted : Lemma → (ℕ → Bool) → ℕ → ℕ → Type 0
IsLifted lemma x before now =
    ((now ≡ before) × (ClauseTrue x lemma.clause ⊎ (lemma.level ≤ before)))
    ⊎ ((now ≡ lemma.level) × (before < lemma.level) × (ClauseTrue x lemma.clause → ⊥))

-- each obligation that is blocked below this level meets lemma n
abbrev pub AreMetBelow : FrameState → ℕ → ℕ → List ℕ → Type 0
AreMetBelow f n from blocked =
    (o : ℕ) → o < length blocked → blocked_at blocked o < from →
    ClauseTrue (assignment_of (obligation_at f.obligations o).values) (lemma_at f.lemmas n).clause

-- obligations are kept in parts of 64, and none of a part is blocked below the part's floor
pub record AreFloors (floors : List ℕ) (blocked : List ℕ) : Type 0 where
  pub enough : length blocked ≤ length floors * 64
  pub tight : length floors * 64 < length blocked + 64
  pub low : (c o : ℕ) → c < length floors → c * 64 ≤ o → o < c * 64 + 64 → o < length blocked → slice_index_or floors c 0 ≤ blocked_at blocked o

-- what is kept of the obligations: the level to which each is blocked, and floors; and tables of the literals of clauses,
-- and of those that are true in the obligations' states
pub record IsAgenda (lemmas : List Lemma) (obligations : List Obligation) (blocked floors : List ℕ) (clauses states : Table) : Type 0 where
  pub follow : AreBlocked lemmas obligations blocked
  pub floors' : AreFloors floors blocked
  pub clauses' : HoldsClauses lemmas clauses
  pub states' : HoldsStates obligations states
