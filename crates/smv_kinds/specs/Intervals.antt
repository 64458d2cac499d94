-- Intervals of integers, and what the integers that an operator gives lie between: an own choice of this project.
use Rattle.std.specs.Prelude.{ℕ, ◌-◌, max, ℤ, pos, neg_ℤ, unsigned_abs, Option, None, Some}
use Rattle.std.specs.Int.{int_max, int_min}
use Rattle.smv_value.specs.declared.operator.Arithmetic.{Arithmetic}
use Rattle.smv_value.specs.declared.operator.Division.{Division}
use Rattle.smv_value.specs.declared.operator.Division.TheVariants as division
use Rattle.smv_value.specs.Results.{sum_of}
use Rattle.smv_kinds.specs.declared.kind.Interval.{Interval}

abbrev pub interval : ℤ → ℤ → Interval
interval l h = record { low = l; high = h }

-- the least interval that has these four
unfoldable pub spanned : ℤ → ℤ → ℤ → ℤ → Interval
spanned a b c d = interval (int_min (int_min a b) (int_min c d)) (int_max (int_max a b) (int_max c d))

-- the least interval that has both
abbrev pub hull : Interval → Interval → Interval
hull i j = interval (int_min i.low j.low) (int_max i.high j.high)

-- both, where there are two
abbrev pub hull_of : Option Interval → Option Interval → Option Interval
hull_of None j = j
hull_of (Some i) None = Some i
hull_of (Some i) (Some j) = Some (hull i j)

-- what an operator gives of the ends
abbrev pub corners : (ℤ → ℤ → ℤ) → Interval → Interval → Interval
corners f i j = spanned (f i.low j.low) (f i.low j.high) (f i.high j.low) (f i.high j.high)

-- the greatest absolute value
abbrev pub extent : Interval → ℕ
extent i = max (unsigned_abs i.low) (unsigned_abs i.high)

-- up to n, in both directions
abbrev pub around : ℕ → Interval
around n = interval (neg_ℤ (pos n)) (pos n)

abbrev pub sum_interval : Arithmetic → Interval → Interval → Interval
sum_interval o = corners (sum_of o)

-- A quotient is no greater than what is divided, and a remainder is less than the divisor.
abbrev pub division_interval : Division → Interval → Interval → Interval
division_interval division.Quotient i j = around (extent i)
division_interval division.Remainder i j = around (extent j - 1)

abbrev pub opposite_interval : Interval → Interval
opposite_interval i = interval (neg_ℤ i.high) (neg_ℤ i.low)

abbrev pub absolute_interval : Interval → Interval
absolute_interval i = interval (pos 0) (pos (extent i))
