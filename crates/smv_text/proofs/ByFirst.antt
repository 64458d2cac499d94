-- A table of words is searched in the row of the word's first byte alone.
use Rattle.std.proofs.Common.{◌≡◌, ℕ, ◌+◌, ◌-◌, ◌<◌, ◌≤◌, Bool, true, false, ◌&&◌, cond, List, [], ◌∷◌, length, map, refl, ap, sym, ◌∙◌, arith}
use Rattle.std.specs.Prelude.{nat_eq, nat_lt, nat_le, Option, None, Some, slice_index_or, bytes_eq}
use Rattle.std.specs.List.{filter, list_all, range_with_len}
use Rattle.std.proofs.lemmas.Bool.Decides.{nat_tests}
use Rattle.std.proofs.lemmas.List.{get_or_past}
use Rattle.std.proofs.lemmas.List.FromFn.{get_or-map-range_with_len, length-map-range_with_len}
use Rattle.smv_tree.specs.declared.token.TokenKind.{TokenKind}
use Rattle.smv_text.specs.Words.{kind_in}
use Rattle.smv_text.specs.Rows.{kind_among}

-- the text begins with this byte
abbrev pub starts : ℕ → List ℕ → Bool
starts c [] = false
starts c (x ∷ xs) = nat_eq x c

abbrev pub begins : ℕ → List ℕ × TokenKind → Bool
begins c entry = starts c entry.0

-- the text begins with one of so many bytes from this one on
abbrev pub starts_within : ℕ → ℕ → List ℕ → Bool
starts_within low count [] = false
starts_within low count (x ∷ xs) = nat_le low x && nat_lt x (low + count)

abbrev pub are_within : ℕ → ℕ → List (List ℕ × TokenKind) → Bool
are_within low count table = list_all (λ (entry : List ℕ × TokenKind). starts_within low count entry.0) table

-- the rows of a table, by first bytes
abbrev pub rows_of : ℕ → ℕ → List (List ℕ × TokenKind) → List (List (List ℕ × TokenKind))
rows_of low count table = map (λ k. filter (begins (low + k)) table) (range_with_len 0 count)

by_case : (s : Bool) (P : Type 0) → (s ≡ true → P) → (s ≡ false → P) → P
by_case true P f g = f refl
by_case false P f g = g refl

first_true : (a b : Bool) → (a && b) ≡ true → a ≡ true
first_true true b e = refl
first_true false b e = absurd cc

second_true : (a b : Bool) → (a && b) ≡ true → b ≡ true
second_true true b e = e
second_true false b e = absurd cc

-- what is left out of a row is not found
pub kept : (c : ℕ) (text : List ℕ) (table : List (List ℕ × TokenKind)) → kind_in table (c ∷ text) ≡ kind_in (filter (begins c) table) (c ∷ text)
kept c text [] = refl
kept c text (([], kind) ∷ rest) = kept c text rest
kept c text ((x ∷ xs, kind) ∷ rest) =
    let row = filter (begins c) rest in
    let same = nat_eq x c in
    let P : Type 0 = kind_in ((x ∷ xs, kind) ∷ rest) (c ∷ text) ≡ kind_in (filter (begins c) ((x ∷ xs, kind) ∷ rest)) (c ∷ text) in
    by_case same P
    (λ e. ap (λ z. cond (same && bytes_eq xs text) (Some kind) z) (kept c text rest) ∙ sym (ap (λ s. kind_in (cond s ((x ∷ xs, kind) ∷ row) row) (c ∷ text)) e))
    (λ e. ap (λ s. cond (s && bytes_eq xs text) (Some kind) (kind_in rest (c ∷ text))) e ∙ kept c text rest ∙ sym (ap (λ s. kind_in (cond s ((x ∷ xs, kind) ∷ row) row) (c ∷ text)) e))

outside : (c low count x : ℕ) → (nat_le low x && nat_lt x (low + count)) ≡ true → (nat_le low c && nat_lt c (low + count)) ≡ false → nat_eq x c ≡ false
outside c low count x inside out =
    by_case (nat_eq x c) (nat_eq x c ≡ false)
    (λ e. let is : x ≡ c = grind (arith, nat_tests) in absurd (let no : true ≡ false = sym inside ∙ ap (λ y. nat_le low y && nat_lt y (low + count)) is ∙ out in cc))
    (λ e. e)

-- no word begins with a byte outside
none_outside : (c low count : ℕ) (table : List (List ℕ × TokenKind)) → are_within low count table ≡ true → (nat_le low c && nat_lt c (low + count)) ≡ false → filter (begins c) table ≡ []
none_outside c low count [] inside out = refl
none_outside c low count (([], kind) ∷ rest) inside out = absurd (let no : false ≡ true = inside in cc)
none_outside c low count ((x ∷ xs, kind) ∷ rest) inside out =
    let here : (nat_le low x && nat_lt x (low + count)) ≡ true = first_true _ (are_within low count rest) inside in
    let row = filter (begins c) rest in
    ap (λ s. cond s ((x ∷ xs, kind) ∷ row) row) (outside c low count x here out) ∙ none_outside c low count rest (second_true (nat_le low x && nat_lt x (low + count)) (are_within low count rest) inside) out

-- no word is empty
none_empty : (low count : ℕ) (table : List (List ℕ × TokenKind)) → are_within low count table ≡ true → None ≡ kind_in table []
none_empty low count [] inside = refl
none_empty low count (([], kind) ∷ rest) inside = absurd (let no : false ≡ true = inside in cc)
none_empty low count ((x ∷ xs, kind) ∷ rest) inside = none_empty low count rest (second_true (nat_le low x && nat_lt x (low + count)) (are_within low count rest) inside)

-- the row of a byte is what the table has of it
row_is : (low count : ℕ) (table : List (List ℕ × TokenKind)) → are_within low count table ≡ true → (c : ℕ) → low ≤ c →
    slice_index_or (rows_of low count table) (c - low) [] ≡ filter (begins c) table
row_is low count table inside c above =
    let f : ℕ → List (List ℕ × TokenKind) = λ k. filter (begins (low + k)) table in
    let at : low + (c - low) ≡ c = omega arith in
    by_case (nat_lt (c - low) count) (slice_index_or (rows_of low count table) (c - low) [] ≡ filter (begins c) table)
    (λ e. let lt : c - low < count = grind (arith, nat_tests) in get_or-map-range_with_len f 0 count (c - low) (c - low) [] lt (omega arith) ∙ ap (λ k. filter (begins k) table) at)
    (λ e. let le : count ≤ c - low = grind (arith, nat_tests) in
    let long : length (rows_of low count table) ≤ c - low = (let size : length (rows_of low count table) ≡ count = length-map-range_with_len f 0 count in omega arith) in
    let out : (nat_le low c && nat_lt c (low + count)) ≡ false = (let past : low + count ≤ c = omega arith in grind (arith, nat_tests)) in
    get_or_past (rows_of low count table) (c - low) [] long ∙ sym (none_outside c low count table inside out))

-- A text is found in the row of its first byte, if at all.
pub among : (low count : ℕ) (table : List (List ℕ × TokenKind)) (rows : List (List (List ℕ × TokenKind))) → rows ≡ rows_of low count table → are_within low count table ≡ true →
    (text : List ℕ) → kind_among low rows text ≡ kind_in table text
among low count table rows is inside [] = none_empty low count table inside
among low count table rows is inside (c ∷ text) =
    by_case (nat_le low c) (kind_among low rows (c ∷ text) ≡ kind_in table (c ∷ text))
    (λ e. let above : low ≤ c = grind (arith, nat_tests) in
    ap (λ s. cond s (kind_in (slice_index_or rows (c - low) []) (c ∷ text)) None) e
    ∙ ap (λ rs. kind_in (slice_index_or rs (c - low) []) (c ∷ text)) is
    ∙ ap (λ row. kind_in row (c ∷ text)) (row_is low count table inside c above)
    ∙ sym (kept c text table))
    (λ e. let out : (nat_le low c && nat_lt c (low + count)) ≡ false = ap (λ s. s && nat_lt c (low + count)) e in
    ap (λ s. cond s (kind_in (slice_index_or rows (c - low) []) (c ∷ text)) None) e
    ∙ sym (ap (λ row. kind_in row (c ∷ text)) (none_outside c low count table inside out))
    ∙ sym (kept c text table))
