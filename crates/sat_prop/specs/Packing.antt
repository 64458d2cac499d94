-- Literals as numbers, and the rows in which watched literals come first.
use Rattle.std.specs.Prelude.{◌≡◌, ℕ, ◌+◌, ◌<◌, ◌≤◌, ◌&&◌, Bool, not, List, [], ◌∷◌, length, take, drop, map, slice_index_or, slice_set, All}
use Rattle.std.specs.List.{filter}
use Rattle.clause_core.specs.declared.literal.Lit.{Lit}
use Rattle.clause_core.specs.Literals.{at}
use Rattle.sat_prop.specs.declared.rows.Span.{Span}
use Rattle.sat_prop.specs.declared.watch.Watches.{Watches}
use Rattle.sat_prop.specs.Trails.{is_literal, among}
use Rattle.sat_prop.specs.Watches.{HasTwo}
use Rattle.sat_prop.specs.Words.{literal_of}

-- the words of one row
abbrev pub row_words : List ℕ → Span → List ℕ
row_words words s = take s.len (drop s.from words)

-- the literals of one row
abbrev pub row_at : List ℕ → Span → List Lit
row_at words s = map literal_of (row_words words s)

-- the rows of all spans
abbrev pub rows_at : List ℕ → List Span → List (List Lit)
rows_at words spans = map (row_at words) spans

-- each span lies within the words
abbrev pub SpansIn : List ℕ → List Span → Type 0
SpansIn words spans = All (λ s. s.from + s.len ≤ length words) spans

-- no two spans overlap: each begins where those before it have ended
abbrev pub SpansApart : List Span → Type 0
SpansApart spans = (j k : ℕ) (s t : Span) → j < k → k < length spans → (slice_index_or spans j s).from + (slice_index_or spans j s).len ≤ (slice_index_or spans k t).from

-- the watches of a row: its first two literals
abbrev pub pair_of : List Lit → Watches
pair_of row = record { a = at row 0; b = slice_index_or row 1 (at row 0) }

-- the watches of all rows
abbrev pub pairs : List (List Lit) → List Watches
pairs rows = map pair_of rows

-- whether the literal is neither of the two watches
abbrev pub is_beside : Watches → Lit → Bool
is_beside h l = not (is_literal l h.a) && not (is_literal l h.b)

-- a clause's row: its watches, and then its other literals
abbrev pub row_of : Watches → List Lit → List Lit
row_of h c = h.a ∷ h.b ∷ filter (is_beside h) c

-- the row with other watches: what stood at j is the first, `other` the second, and `fallen` stands at j
abbrev pub rewatched : List Lit → ℕ → Lit → Lit → List Lit
rewatched row j other fallen = slice_set (slice_set (slice_set row j fallen) 0 (at row j)) 1 other

-- the row of each clause that has two watches has the same literals
abbrev pub RowsMatch : List (List Lit) → List (List Lit) → Type 0
RowsMatch cs rows =
    (k : ℕ) → k < length cs → HasTwo (pair_of (slice_index_or rows k [])) → (l : Lit) → among (slice_index_or rows k []) l ≡ among (slice_index_or cs k []) l
