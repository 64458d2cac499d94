-- Numbers that are written in decimal digits.
use Rattle.std.specs.Prelude.{ℕ, Bool, ◌&&◌, if◌then◌else◌, List, length, nat_lt, nat_le, Option, None, Some}
use Rattle.std.specs.Char.{is_ascii_digit}
use Rattle.std.specs.List.{list_all}
use Rattle.std.specs.Str.Parse.{digits_value}

-- one decimal digit or more, and nothing else; the first may be a zero
abbrev pub is_numeral : List ℕ → Bool
is_numeral bytes = nat_lt 0 (length bytes) && list_all is_ascii_digit bytes

-- the number that a numeral writes, if it is at most this limit
unfoldable pub number_up_to : ℕ → List ℕ → Option ℕ
number_up_to limit bytes = if is_numeral bytes && nat_le (digits_value 10 bytes) limit then Some (digits_value 10 bytes) else None
