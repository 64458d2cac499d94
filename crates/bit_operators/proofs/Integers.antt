-- Low bits of integers, and the integers that bits are in two's complement.
use Rattle.std.proofs.Common.{◌≡◌, ℕ, zero, suc, ◌+◌, ◌-◌, ◌*◌, ◌/◌, ◌%◌, ◌^◌, ◌<◌, ◌≤◌, ◌⊎◌, inl, inr, Bool, true, false, ◌&&◌, cond, ℤ, pos, negsuc, neg_ℤ, ◌+ℤ◌, ◌-ℤ◌, refl, sym, ap, subst, ◌∙◌, arith, nat_le, unsigned_abs}
use Rattle.std.specs.Prelude.{int_le, int_lt}
use Rattle.std.proofs.Math.Nat.{mod-eq_of_lt, mod-lt}
use Rattle.std.proofs.lemmas.Bool.{cases_Bool, cases_lt, le-leb, lt-leb, leb-true}
use Rattle.std.proofs.lemmas.Int.{ints}
use Rattle.std.proofs.lemmas.Nat.{mod-mul-add, div-add-mod', pow_pos}
use Rattle.smv_value.specs.Results.{number_of_word, is_int, low_bits}
use Rattle.smv_value.proofs.Bits.{Near, near, low_bits_is}
use Rattle.bit_arith.specs.Words.{integer, is_negative}
use Rattle.bit_operators.specs.Integers.{fits}

positive_fits : (n c : ℕ) → fits n (pos c) ≡ true → c + c < 2 ^ n
positive_fits n c h = grind (arith, ints)

negative_fits : (n c : ℕ) → fits n (negsuc c) ≡ true → 2 * (c + 1) ≤ 2 ^ n
negative_fits n c h = grind (arith, ints)

same_rest : (p k j c m : ℕ) → c < p → m < p → c + k * p ≡ m + j * p → c ≡ m
same_rest p k j c m l n e =
    let left : k * p + c ≡ j * p + m = omega (arith, e) in
    sym (mod-mul-add k p c l) ∙ ap (λ x. x % p) left ∙ mod-mul-add j p m n

-- a multiple of p between 0 and 2 p is p
whole_once : (p k j s : ℕ) → 0 < s → s < p + p → k * p ≡ j * p + s → s ≡ p
whole_once p k j s some less e =
    elim (cases_lt s p) [
      | inl below ↦
          let none : s ≡ 0 = sym (mod-mul-add j p s below) ∙ ap (λ x. x % p) (sym e) ∙ ap (λ x. x % p) (let f : k * p ≡ k * p + 0 = omega arith in f) ∙ mod-mul-add k p 0 (omega arith) in
          absurd (omega arith)
      | inr above ↦
          let split : j * p + s ≡ (j + 1) * p + (s - p) = omega arith in
          let rest : s - p < p = omega arith in
          let none : s - p ≡ 0 =
          sym (mod-mul-add (j + 1) p (s - p) rest) ∙ ap (λ x. x % p) (sym (e ∙ split)) ∙ ap (λ x. x % p) (let f : k * p ≡ k * p + 0 = omega arith in f) ∙ mod-mul-add k p 0 (omega arith) in
          omega arith
    ]

-- the integer of n bits whose number is near one that they hold
pub near_integer : (n m : ℕ) (z : ℤ) → m < 2 ^ n → Near (2 ^ n) m z → fits n z ≡ true → integer n m ≡ z
near_integer n m (pos c) l (near k j e) h =
    let small : c + c < 2 ^ n = positive_fits n c h in
    let sums : c + k * 2 ^ n ≡ m + j * 2 ^ n = omega (arith, ints, e) in
    let same : c ≡ m = same_rest (2 ^ n) k j c m (omega arith) l sums in
    let low : nat_le (2 ^ n) (2 * m) ≡ false = lt-leb (2 ^ n) (2 * m) (omega (arith, same)) in
    ap (λ b. cond b (neg_ℤ (pos (2 ^ n - m))) (pos m)) low ∙ ap pos (sym same)
near_integer n m (negsuc c) l (near k j e) h =
    let small : 2 * (c + 1) ≤ 2 ^ n = negative_fits n c h in
    let sums : k * 2 ^ n ≡ j * 2 ^ n + (m + (c + 1)) = omega (arith, ints, e) in
    let whole : m + (c + 1) ≡ 2 ^ n = whole_once (2 ^ n) k j (m + (c + 1)) (omega arith) (omega arith) sums in
    let high : nat_le (2 ^ n) (2 * m) ≡ true = le-leb (2 ^ n) (2 * m) (omega (arith, whole)) in
    let rest : 2 ^ n - m ≡ suc c = omega (arith, whole) in
    ap (λ b. cond b (neg_ℤ (pos (2 ^ n - m))) (pos m)) high ∙ ap (λ x. neg_ℤ (pos x)) rest

counted_at : (n m : ℕ) (b : Bool) → m < 2 ^ n → Near (2 ^ n) m (cond b (neg_ℤ (pos (2 ^ n - m))) (pos m))
counted_at n m true l = near 1 0 (omega (arith, ints))
counted_at n m false l = near 0 0 (omega (arith, ints))

pub counted_near : (s : Bool) (n m : ℕ) → m < 2 ^ n → Near (2 ^ n) m (number_of_word s n m)
counted_near false n m l = near 0 0 (omega (arith, ints))
counted_near true n m l = counted_at n m (nat_le (2 ^ n) (2 * m)) l

fits_at : (n m : ℕ) (b : Bool) → nat_le (2 ^ n) (2 * m) ≡ b → m < 2 ^ n → fits n (cond b (neg_ℤ (pos (2 ^ n - m))) (pos m)) ≡ true
fits_at n m true e l = let high : 2 ^ n ≤ 2 * m = leb-true (2 ^ n) (2 * m) e in grind (arith, ints)
fits_at n m false e l = grind (arith, ints)

pub integer_fits : (n m : ℕ) → m < 2 ^ n → fits n (integer n m) ≡ true
integer_fits n m l = fits_at n m (nat_le (2 ^ n) (2 * m)) refl l

pub low_bits_near : (n m : ℕ) (z : ℤ) → Near (2 ^ n) m z → low_bits n z ≡ m % 2 ^ n
low_bits_near n m z (near k j e) =
    low_bits_is n k (m + j * 2 ^ n) z e
    ∙ (let left : m + j * 2 ^ n ≡ (j + m / 2 ^ n) * 2 ^ n + m % 2 ^ n = (let d = div-add-mod' m (2 ^ n) in omega (arith, d)) in
    ap (λ x. x % 2 ^ n) left ∙ mod-mul-add (j + m / 2 ^ n) (2 ^ n) (m % 2 ^ n) (mod-lt m (pow_pos n)))

-- a number near z has the low bits of z, where it has no others
pub low_bits_exact : (n m : ℕ) (z : ℤ) → m < 2 ^ n → Near (2 ^ n) m z → m ≡ low_bits n z
low_bits_exact n m z l h = sym (low_bits_near n m z h ∙ mod-eq_of_lt l)
