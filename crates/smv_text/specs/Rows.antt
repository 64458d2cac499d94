-- Tables of words that are parted by their first bytes.
use Rattle.std.specs.Prelude.{ℕ, ◌-◌, nat_le, if◌then◌else◌, List, [], ◌∷◌, map, Option, None, slice_index_or}
use denote.Ref.{Bor}
use Rattle.smv_tree.specs.declared.token.TokenKind.{TokenKind}
use Rattle.smv_text.specs.Words.{kind_in}

-- a row, read
abbrev pub read_row : List (Bor (List ℕ) × TokenKind) → List (List ℕ × TokenKind)
read_row row = map (λ (entry : Bor (List ℕ) × TokenKind). (entry.0.now, entry.1)) row

-- the rows, read
abbrev pub read_rows : List (Bor (List (Bor (List ℕ) × TokenKind))) → List (List (List ℕ × TokenKind))
read_rows rows = map (λ row. read_row row.now) rows

-- the kind beside the text in the row of its first byte, where the first row is that of the byte low
abbrev pub kind_among : ℕ → List (List (List ℕ × TokenKind)) → List ℕ → Option TokenKind
kind_among low rows [] = None
kind_among low rows (c ∷ text) = if nat_le low c then kind_in (slice_index_or rows (c - low) []) (c ∷ text) else None
