-- The product of two integers of 32 bits fits 64.
use Rattle.std.proofs.Common.{◌≤◌, IsTrue, ℤ, pos, negsuc, ◌*ℤ◌, FitsSigned, w64, arith, unsigned_abs}
use Rattle.std.proofs.lemmas.Int.{fits_signed_mul}
use Rattle.smv_value.specs.Results.{is_int}

within : (a : ℤ) → IsTrue (is_int a) → unsigned_abs a ≤ 2147483648
within (pos n) h = grind arith
within (negsuc n) h = grind arith

pub product_fits : (a b : ℤ) → IsTrue (is_int a) → IsTrue (is_int b) → FitsSigned w64 (a *ℤ b)
product_fits a b h l = fits_signed_mul w64 a b 2147483648 2147483648 (within a h) (within b l) (omega arith)
