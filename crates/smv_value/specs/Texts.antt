-- How values are printed.
use Rattle.std.specs.Prelude.{ℕ, List, [], ◌++◌, codes, cond, slice_get, unwrap_or}
use Rattle.std.specs.Fmt.{decimal, signed_decimal}
use Rattle.smv_value.specs.declared.value.Value.{Value}
use Rattle.smv_value.specs.declared.value.Value.TheVariants as value

-- the name of a symbol; none where the table has none
abbrev pub name_of : List (List ℕ) → ℕ → List ℕ
name_of names n = unwrap_or (slice_get names n) []

-- a word by its type and its bits, as in 0ud8_255 and 0sd8_255
abbrev pub value_text : List (List ℕ) → Value → List ℕ
value_text names (value.Bool b) = cond b (codes "TRUE") (codes "FALSE")
value_text names (value.Int z) = signed_decimal z
value_text names (value.Sym n) = name_of names n
value_text names (value.Word signed width bits) =
    cond signed (codes "0sd") (codes "0ud") ++ decimal width ++ codes "_" ++ decimal bits
