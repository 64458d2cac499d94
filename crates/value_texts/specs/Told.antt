-- Values as they are told in texts that are read back: by texts that tell the values of a type apart, whatever symbols
-- are named. An own choice of this project.
use Rattle.std.specs.Prelude.{ℕ, ◌+◌, ◌==◌, Bool, false, ◌&&◌, ◌||◌, if◌then◌else◌, List, [], ◌∷◌, Option, None, Some, position, bytes_eq, replicate}
use Rattle.std.specs.Char.{is_ascii_alphabetic}
use Rattle.smv_value.specs.declared.value.Value.{Value}
use Rattle.smv_value.specs.declared.value.Value.TheVariants as value
use Rattle.smv_value.specs.Texts.{name_of, value_text}

-- an identifier begins with a letter or "_"
abbrev pub begins_identifier : ℕ → Bool
begins_identifier b = is_ascii_alphabetic b || b == 95

abbrev pub is_named : List ℕ → Bool
is_named [] = false
is_named (b ∷ bs) = begins_identifier b

-- the number of the first symbol of this name
abbrev pub number_of : List (List ℕ) → List ℕ → Option ℕ
number_of names name = position (λ (symbol : List ℕ). bytes_eq name symbol) names

abbrev pub is_number : ℕ → Option ℕ → Bool
is_number n None = false
is_number n (Some k) = k == n

-- the symbol is named as identifiers are, and is the first of its name, as each symbol of a source is
unfoldable pub is_proper : List (List ℕ) → ℕ → Bool
is_proper names n = is_named (name_of names n) && is_number n (number_of names (name_of names n))

-- a symbol by its name; any other, which no source has, by as many `$` as its number and one more
unfoldable pub symbol_text : List (List ℕ) → ℕ → List ℕ
symbol_text names n = if is_proper names n then name_of names n else replicate (n + 1) 36

-- a value as it is printed, where these are the names of symbols
abbrev pub told_text : List (List ℕ) → Value → List ℕ
told_text names (value.Sym n) = symbol_text names n
told_text names v = value_text names v
