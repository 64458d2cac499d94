-- What a signed word of so many bits counts, by the size of a number.
use Rattle.std.proofs.Common.{◌≡◌, ℕ, zero, suc, ◌≤ℤ◌, ◌<ℤ◌, ◌&&◌, ℤ, pos, negsuc, neg_ℤ, refl, sym, ap, ◌∙◌, arith, unsigned_abs, nat_le, nat_lt}
use Rattle.std.specs.Prelude.{int_le, int_lt}
use lib.Dec.{leb-suc-suc}
use Rattle.std.proofs.Math.Bool.{and-true}
use Rattle.std.proofs.lemmas.Bool.{le-leb, lt-leb}
use Rattle.std.proofs.lemmas.Int.{ints}

pub negative_within : (p : ℕ) (z : ℤ) → z <ℤ pos 0 → nat_le (unsigned_abs z) p ≡ (int_le (neg_ℤ (pos p)) z && int_lt z (pos p))
negative_within p (pos n) h = absurd (omega (arith, ints, h))
negative_within zero (negsuc n) h = lt-leb (suc n) 0 (omega arith)
negative_within (suc p) (negsuc n) h = leb-suc-suc n p ∙ sym (and-true (nat_le n p))

pub positive_within : (p : ℕ) (z : ℤ) → pos 0 ≤ℤ z → nat_lt (unsigned_abs z) p ≡ (int_le (neg_ℤ (pos p)) z && int_lt z (pos p))
positive_within p (negsuc n) h = absurd (omega (arith, ints, h))
positive_within zero (pos n) h = sym (ap (λ b. b && nat_lt n 0) (le-leb 0 n (omega arith)))
positive_within (suc p) (pos n) h = refl
