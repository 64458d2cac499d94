-- Amounts to shift by.
use Rattle.std.specs.Prelude.{ℕ, Bool, ◌||◌, ℤ, pos, int_lt}

-- negative, or past the width
abbrev pub is_outside : ℕ → ℤ → Bool
is_outside width n = int_lt n (pos 0) || int_lt (pos width) n
