use Rattle.std.proofs.Common.{◌≡◌, ℕ, ◌+◌, ◌*◌, ◌^◌, ◌<◌, ◌≤◌, ◌/◌, ◌%◌, Bool, true, false, cond, refl, sym, ◌∙◌, ap, arith}
use Rattle.std.proofs.Math.Nat.{mod-eq_of_lt}
use Rattle.std.proofs.lemmas.Nat.{div-mul-add, mod-mul-add}
use Rattle.bit_arith.specs.Number.{bit}
use Rattle.bit_arith.specs.Digits.{Takes}

takes_step : (p r x d diff chosen next : ℕ) (q : Bool) → x ≤ 1 → diff + (2 * p) * bit q + d ≡ (x + 2 * r) + 2 * p → diff < 2 * p →
    chosen ≡ cond q diff (x + 2 * r) → next ≡ chosen % p → r < d → d < p → (x + 2 * r ≡ bit q * d + next) × (next < d)
takes_step p r x d diff chosen next true s e l c n lt fits =
    let small : diff < p = omega arith in
    let same : next ≡ diff = n ∙ ap (λ m. m % p) c ∙ mod-eq_of_lt small in
    (omega arith, omega arith)
takes_step p r x d diff chosen next false s e l c n lt fits =
    let small : x + 2 * r < p = omega arith in
    let same : next ≡ x + 2 * r = n ∙ ap (λ m. m % p) c ∙ mod-eq_of_lt small in
    (omega arith, omega arith)

takes_zero : (p r x d diff chosen next : ℕ) (q : Bool) → x + 2 * r < 2 * p → diff + (2 * p) * bit q + d ≡ (x + 2 * r) + 2 * p → diff < 2 * p →
    chosen ≡ cond q diff (x + 2 * r) → next ≡ chosen % p → d ≡ 0 → (bit q ≡ 1) × (next ≡ (x + 2 * r) % p)
takes_zero p r x d diff chosen next true s e l c n z =
    let same : diff ≡ x + 2 * r = omega arith in
    (refl, n ∙ ap (λ m. m % p) (c ∙ same))
takes_zero p r x d diff chosen next false s e l c n z = absurd (omega arith)

pub takes : (n r x d diff chosen next : ℕ) (q : Bool) → x ≤ 1 → r < 2 ^ n → diff + (2 * 2 ^ n) * bit q + d ≡ (x + 2 * r) + 2 * 2 ^ n →
    diff < 2 * 2 ^ n → chosen ≡ cond q diff (x + 2 * r) → next ≡ chosen % 2 ^ n → Takes n r x d (bit q) next
takes n r x d diff chosen next q s small e l c m = record {
  divides = λ lt fits. let t = takes_step (2 ^ n) r x d diff chosen next q s e l c m lt fits in record { whole = t.0; below = t.1 };
  by_zero = takes_zero (2 ^ n) r x d diff chosen next q (omega arith) e l c m;
}

pub quotient_is : (a q d r : ℕ) → a ≡ q * d + r → r < d → (q ≡ a / d) × (r ≡ a % d)
quotient_is a q d r e l =
    (sym (ap (λ n. n / d) e ∙ div-mul-add q d r l), sym (ap (λ n. n % d) e ∙ mod-mul-add q d r l))

pub digit_more : (x a q d r s b : ℕ) → a ≡ q * d + r → x + 2 * r ≡ b * d + s → x + 2 * a ≡ (b + 2 * q) * d + s
digit_more x a q d r s b h k = omega arith

-- where the divisor is 0, the digits are all 1
pub digit_full : (p q : ℕ) → q + 1 ≡ p → (1 + 2 * q) + 1 ≡ 2 * p
digit_full p q e = omega arith
