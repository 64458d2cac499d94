-- The greater and the lesser of two integers.
use Rattle.std.specs.Prelude.{Bool, true, false, ℤ}
use Rattle.std.specs.Int.{int_max, int_min}

abbrev pub extreme : Bool → ℤ → ℤ → ℤ
extreme true a b = int_max a b
extreme false a b = int_min a b
