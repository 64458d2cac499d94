-- The sign of a word.
use Rattle.std.specs.Prelude.{ℕ, ◌*◌, ◌^◌, Bool, true, false, nat_le}
use Rattle.bit_arith.specs.Words.{is_negative}

-- what the word counts is below 0
abbrev pub is_below_zero : Bool → ℕ → ℕ → Bool
is_below_zero false width bits = false
is_below_zero true width bits = is_negative width bits
