-- Integers in two's complement.
use Rattle.std.specs.Prelude.{ℕ, ◌+◌, ◌^◌, Bool, ◌&&◌, max, min, ℤ, pos, neg_ℤ, ◌+ℤ◌, int_le, int_lt}
use Rattle.smv_value.specs.declared.operator.Arithmetic.{Arithmetic}
use Rattle.smv_value.specs.declared.operator.Arithmetic.TheVariants as sum

-- n bits hold the integer
abbrev pub fits : ℕ → ℤ → Bool
fits n z = int_le (neg_ℤ (pos (2 ^ n))) (z +ℤ z) && int_lt (z +ℤ z) (pos (2 ^ n))

-- one bit at least, and 32 at most, as values have no more
abbrev pub bounded : ℕ → ℕ
bounded n = min (max n 1) 32

-- how many bits hold what integers of m and of n bits give
abbrev pub sum_rule : Arithmetic → ℕ → ℕ → ℕ
sum_rule sum.Add m n = max m n + 1
sum_rule sum.Subtract m n = max m n + 1
sum_rule sum.Multiply m n = m + n
