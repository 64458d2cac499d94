-- Tables of literals: a row of them for each lemma, or for each obligation.
use Rattle.std.specs.Prelude.{◌≡◌, ◌⊎◌, ℕ, ◌+◌, ◌*◌, ◌/◌, ◌%◌, ◌<◌, Bool, true, false, List, length, slice_index_or}
use Rattle.std.specs.Int.{bit_at}
use Rattle.std.specs.List.{Contains}
use Rattle.clause_core.specs.declared.literal.Lit.{Lit}
use Rattle.clause_core.specs.Assignments.{assignment_of}
use Rattle.frame_core.specs.declared.parts.Lemma.{Lemma}
use Rattle.frame_core.specs.declared.parts.Obligation.{Obligation}
use Rattle.frame_core.specs.FrameLaw.{lemma_at, obligation_at}

-- a table as data: of each 64 rows so many words, one for a literal, and these one after another
pub record Table : Type 0 where
  pub width : ℕ
  pub rows : ℕ
  pub words : List ℕ

-- 1 for a positive literal, 0 for a negative one
abbrev pub one : Bool → ℕ
one true = 1
one false = 0

-- which of the words is the literal's
abbrev pub place_of : Lit → ℕ
place_of l = 2 * l.var + one l.positive

-- the literal has a word, and in it the row's bit is set
abbrev pub IsSet : ℕ → List ℕ → ℕ → Lit → Type 0
IsSet width words row l = (place_of l < width) × (bit_at (slice_index_or words (row / 64 * width + place_of l) 0) (row % 64) ≡ 1)

-- the table says that the row has the literal
abbrev pub Has : Table → ℕ → Lit → Type 0
Has t row l = IsSet t.width t.words row l

-- what the second table says is said by the first one too, but for these literals of the row that comes next there
abbrev pub AddsLiterals : Table → List Lit → Table → Type 0
AddsLiterals before lits now = (row : ℕ) (l : Lit) → Has now row l → Has before row l ⊎ ((row ≡ before.rows) × Contains lits l)

-- the same for the literals that these values make true
abbrev pub AddsValues : Table → List Bool → Table → Type 0
AddsValues before values now = (row : ℕ) (l : Lit) → Has now row l → Has before row l ⊎ ((row ≡ before.rows) × (assignment_of values l.var ≡ l.positive))

-- the rows are lemmas, and what they have are literals of their clauses
abbrev pub HoldsClauses : List Lemma → Table → Type 0
HoldsClauses lemmas t = (n : ℕ) (l : Lit) → Has t n l → (n < length lemmas) × Contains (lemma_at lemmas n).clause l

-- the rows are obligations, and what they have is true in their states
abbrev pub HoldsStates : List Obligation → Table → Type 0
HoldsStates obligations t =
    (o : ℕ) (l : Lit) → Has t o l → (o < length obligations) × (assignment_of (obligation_at obligations o).values l.var ≡ l.positive)
