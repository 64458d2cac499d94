-- The widths of quotients and remainders.
use Rattle.std.specs.Prelude.{ℕ, ◌+◌, min}
use Rattle.smv_value.specs.declared.operator.Division.{Division}
use Rattle.smv_value.specs.declared.operator.Division.TheVariants as division

-- how many bits hold what integers of m and of n bits give
abbrev pub division_rule : Division → ℕ → ℕ → ℕ
division_rule division.Quotient m n = m + 1
division_rule division.Remainder m n = min m n
