-- A division by hand, in binary.
use Rattle.std.specs.Prelude.{◌≡◌, ℕ, ◌+◌, ◌*◌, ◌^◌, ◌<◌, ◌%◌}

-- q is the next digit of a quotient, and `next` the rest, where the rest was below the divisor d, which has n bits
pub record TakesDigit (n rest low d q next : ℕ) : Type 0 where
  pub whole : low + 2 * rest ≡ q * d + next
  pub below : next < d

-- as said, and where d is 0 the digit is 1 and the rest keeps its n low bits
pub record Takes (n rest low d q next : ℕ) : Type 0 where
  pub divides : rest < d → d < 2 ^ n → TakesDigit n rest low d q next
  pub by_zero : d ≡ 0 → (q ≡ 1) × (next ≡ (low + 2 * rest) % 2 ^ n)
