-- Integers by their sign and their size.
use Rattle.std.specs.Prelude.{◌≡◌, ◌<◌, true, if◌then◌else◌, ℤ, pos, neg_ℤ}
use Rattle.smv_value.specs.declared.whole.Whole.{Whole}

abbrev pub number : Whole → ℤ
number z = if z.negative then neg_ℤ (pos z.size) else pos z.size

-- below zero only if there is some of it, and of 128 bits
pub record IsProper (z : Whole) : Type 0 where
  pub some : z.negative ≡ true → 0 < z.size
