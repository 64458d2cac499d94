-- The low bits of numbers, and what words count.
use Rattle.std.proofs.Common.{◌≡◌, ℕ, zero, suc, ◌+◌, ◌-◌, ◌*◌, ◌/◌, ◌%◌, ◌^◌, ◌<◌, ◌≤◌, IsTrue, Bool, true, false, ℤ, pos, neg_ℤ, ◌+ℤ◌, ◌-ℤ◌, ◌*ℤ◌, refl, sym, ap, ◌∙◌, arith, unsigned_abs, nat_le, cond}
use Rattle.std.proofs.Math.Nat.{add-mul-mod_self_right, pow-le-pow_right, mul-zero}
use Rattle.std.proofs.Math.Pow.{mod-mod-pow}
use Rattle.std.proofs.lemmas.Int.{ints, int_rem_euclid_is}
use Rattle.std.proofs.lemmas.Nat.{pow-add, pow_pos}
use Rattle.std.proofs.lemmas.Nat.Bits.{ones_shr}
use Rattle.smv_value.specs.Results.{number_of_word, is_width, is_word, low_bits}

pub width_within : (w : ℕ) → IsTrue (is_width w) → (1 ≤ w) × (w ≤ 128)
width_within w h = grind arith

pub all_ones_is : (w : ℕ) → IsTrue (is_width w) → (2 ^ 128 - 1) / 2 ^ (128 - w) ≡ 2 ^ w - 1
all_ones_is w h =
    let within : w ≤ 128 = (width_within w h).1 in
    let left : 128 - (128 - w) ≡ w = omega arith in
    ones_shr 128 (128 - w) (omega arith) ∙ ap (λ k. 2 ^ k - 1) left

-- 128 bits hold the bits of a word so many times
pub times_width : (w : ℕ) → IsTrue (is_width w) → 2 ^ 128 ≡ 2 ^ (128 - w) * 2 ^ w
times_width w h =
    let within : w ≤ 128 = (width_within w h).1 in
    let both : (128 - w) + w ≡ 128 = omega arith in
    sym (ap (λ k. 2 ^ k) both) ∙ pow-add 2 (128 - w) w

pub low_of_128 : (w n : ℕ) → IsTrue (is_width w) → n % 2 ^ 128 % 2 ^ w ≡ n % 2 ^ w
low_of_128 w n h =
    let within : w ≤ 128 = (width_within w h).1 in
    let both : (128 - w) + w ≡ 128 = omega arith in
    sym (ap (λ k. n % 2 ^ k % 2 ^ w) both) ∙ mod-mod-pow n (128 - w) w

-- a number and a natural number that differ by a multiple of 2 ^ w have the same low bits
pub low_bits_is : (w k m : ℕ) (z : ℤ) → z +ℤ pos (k * 2 ^ w) ≡ pos m → low_bits w z ≡ m % 2 ^ w
low_bits_is w k m z e = ap unsigned_abs (int_rem_euclid_is z (pos (2 ^ w)) (2 ^ w) k m (pow_pos w) refl e)

-- the low bits of a number, from 128 bits of it
pub low_bits_from : (w k m : ℕ) (z : ℤ) → IsTrue (is_width w) → z +ℤ pos (k * 2 ^ w) ≡ pos m → m % 2 ^ 128 % 2 ^ w ≡ low_bits w z
low_bits_from w k m z h e = low_of_128 w m h ∙ sym (low_bits_is w k m z e)

negative_at : (n p : ℕ) → n ≤ p → neg_ℤ (pos n) +ℤ pos p ≡ pos (0 + (p - n))
negative_at n p h = omega (arith, ints)

pub low_negative : (w n : ℕ) → IsTrue (is_width w) → n < 2 ^ 128 → (0 + (2 ^ 128 - n)) % 2 ^ 128 % 2 ^ w ≡ low_bits w (neg_ℤ (pos n))
low_negative w n h l =
    let most : n ≤ 2 ^ 128 = omega arith in
    low_bits_from w (2 ^ (128 - w)) (0 + (2 ^ 128 - n)) (neg_ℤ (pos n)) h
    (ap (λ p. neg_ℤ (pos n) +ℤ pos p) (sym (times_width w h)) ∙ negative_at n (2 ^ 128) most)

-- a number that is m, up to multiples of p
pub data Near (p m : ℕ) (z : ℤ) : Type 0 where
  near : (k j : ℕ) → z +ℤ pos (k * p) ≡ pos (m + j * p) → Near p m z

pub low_bits_near : (w m : ℕ) (z : ℤ) → IsTrue (is_width w) → Near (2 ^ w) m z → m % 2 ^ 128 % 2 ^ w ≡ low_bits w z
low_bits_near w m z h (near k j e) =
    low_of_128 w m h ∙ sym (low_bits_is w k (m + j * 2 ^ w) z e ∙ add-mul-mod_self_right m j (2 ^ w))

-- what a word counts is its bits, or less by p, which is 2 ^ width
data Counts (p bits : ℕ) (z : ℤ) : Type 0 where
  whole : z ≡ pos bits → Counts p bits z
  less : (d : ℕ) → z ≡ neg_ℤ (pos d) → d + bits ≡ p → Counts p bits z

counts_if : (p bits : ℕ) (b : Bool) → bits < p → Counts p bits (cond b (neg_ℤ (pos (p - bits))) (pos bits))
counts_if p bits true l = less (p - bits) refl (omega arith)
counts_if p bits false l = whole refl

counts : (s : Bool) (w bits : ℕ) → bits < 2 ^ w → Counts (2 ^ w) bits (number_of_word s w bits)
counts false w bits l = whole refl
counts true w bits l = counts_if (2 ^ w) bits (nat_le (2 ^ w) (2 * bits)) l

added : (p a b : ℕ) (x y : ℤ) → Counts p a x → Counts p b y → Near p (a + b) (x +ℤ y)
added p a b x y (whole e) (whole f) = near 0 0 (omega (arith, ints))
added p a b x y (whole e) (less d f g) = near 1 0 (omega (arith, ints))
added p a b x y (less c e h) (whole f) = near 1 0 (omega (arith, ints))
added p a b x y (less c e h) (less d f g) = near 2 0 (omega (arith, ints))

-- where q, from which b is taken, is a multiple of p
subtracted : (p a b q r : ℕ) (x y : ℤ) → q ≡ r * p → b ≤ q → Counts p a x → Counts p b y → Near p (a + (q - b)) (x -ℤ y)
subtracted p a b q r x y i l (whole e) (whole f) = near r 0 (omega (arith, ints))
subtracted p a b q r x y i l (whole e) (less d f g) = near r 1 (omega (arith, ints))
subtracted p a b q r x y i l (less c e h) (whole f) = near (r + 1) 0 (omega (arith, ints))
subtracted p a b q r x y i l (less c e h) (less d f g) = near (r + 1) 1 (omega (arith, ints))

turned : (p b q r : ℕ) (y : ℤ) → q ≡ r * p → b ≤ q → Counts p b y → Near p (0 + (q - b)) (neg_ℤ y)
turned p b q r y i l (whole f) = near r 0 (omega (arith, ints))
turned p b q r y i l (less d f g) = near r 1 (omega (arith, ints))

times_negative : (a d : ℕ) → pos a *ℤ neg_ℤ (pos d) ≡ neg_ℤ (pos (a * d))
times_negative a zero = rw mul-zero refl
times_negative a (suc d) = refl

both_negative : (c d : ℕ) → neg_ℤ (pos c) *ℤ neg_ℤ (pos d) ≡ pos (c * d)
both_negative zero zero = refl
both_negative zero (suc d) = omega (arith, ints)
both_negative (suc c) zero = omega (arith, ints)
both_negative (suc c) (suc d) = refl

negative_times : (c b : ℕ) → neg_ℤ (pos c) *ℤ pos b ≡ neg_ℤ (pos (c * b))
negative_times zero b = omega (arith, ints)
negative_times (suc c) b = refl

at_both : (x y u v : ℤ) → x ≡ u → y ≡ v → x *ℤ y ≡ u *ℤ v
at_both x y u v e f = cc

multiplied : (p a b : ℕ) (x y : ℤ) → Counts p a x → Counts p b y → Near p (a * b) (x *ℤ y)
multiplied p a b x y (whole e) (whole f) = near 0 0 (let i = at_both x y _ _ e f in omega (arith, ints, i))
multiplied p a b x y (whole e) (less d f g) =
    let i = at_both x y _ _ e f ∙ times_negative a d in
    let j = ap (λ n. a * n) g in
    near a 0 (omega (arith, ints, i, j))
multiplied p a b x y (less c e h) (whole f) =
    let i = at_both x y _ _ e f ∙ negative_times c b in
    let j = ap (λ n. b * n) h in
    near b 0 (omega (arith, ints, i, j))
multiplied p a b x y (less c e h) (less d f g) =
    let i = at_both x y _ _ e f ∙ both_negative c d in
    let j = ap (λ n. d * n) h in
    let k = ap (λ n. a * n) g in
    let m = ap (λ n. n * p) g in
    near (a + b) p (omega (arith, ints, i, j, k, m))

shifted_up : (p a q : ℕ) (x : ℤ) → Counts p a x → Near p (a * q) (x *ℤ pos q)
shifted_up p a q x (whole e) = near 0 0 (let i = at_both x (pos q) _ _ e refl in omega (arith, ints, i))
shifted_up p a q x (less c e h) =
    let i = at_both x (pos q) _ _ e refl ∙ negative_times c q in
    let j = ap (λ n. q * n) h in
    near q 0 (omega (arith, ints, i, j))

-- the bits of a word are below 2 ^ width, and that is at most 2 ^ 128
pub word_within : (w bits : ℕ) → IsTrue (is_word w bits) → IsTrue (is_width w) × (bits < 2 ^ w)
word_within w bits h = (grind arith, grind arith)

bits_within : (w bits : ℕ) → IsTrue (is_word w bits) → bits ≤ 2 ^ 128
bits_within w bits h =
    let is = word_within w bits h in
    let most : w ≤ 128 = (width_within w is.0).1 in
    let two : 0 < 2 = omega arith in
    let longest : 2 ^ w ≤ 2 ^ 128 = pow-le-pow_right two most in
    omega (arith, is.1)

pub low_added : (s : Bool) (w a b : ℕ) → IsTrue (is_word w a) → IsTrue (is_word w b) →
    (a + b) % 2 ^ 128 % 2 ^ w ≡ low_bits w (number_of_word s w a +ℤ number_of_word s w b)
low_added s w a b h l =
    low_bits_near w (a + b) (number_of_word s w a +ℤ number_of_word s w b) (word_within w a h).0
    (added (2 ^ w) a b (number_of_word s w a) (number_of_word s w b) (counts s w a (word_within w a h).1) (counts s w b (word_within w b l).1))

pub low_subtracted : (s : Bool) (w a b : ℕ) → IsTrue (is_word w a) → IsTrue (is_word w b) →
    (a + (2 ^ 128 - b)) % 2 ^ 128 % 2 ^ w ≡ low_bits w (number_of_word s w a -ℤ number_of_word s w b)
low_subtracted s w a b h l =
    low_bits_near w (a + (2 ^ 128 - b)) (number_of_word s w a -ℤ number_of_word s w b) (word_within w a h).0
    (subtracted (2 ^ w) a b (2 ^ 128) (2 ^ (128 - w)) (number_of_word s w a) (number_of_word s w b) (times_width w (word_within w a h).0) (bits_within w b l)
    (counts s w a (word_within w a h).1) (counts s w b (word_within w b l).1))

pub low_turned : (s : Bool) (w b : ℕ) → IsTrue (is_word w b) → (0 + (2 ^ 128 - b)) % 2 ^ 128 % 2 ^ w ≡ low_bits w (neg_ℤ (number_of_word s w b))
low_turned s w b l =
    low_bits_near w (0 + (2 ^ 128 - b)) (neg_ℤ (number_of_word s w b)) (word_within w b l).0
    (turned (2 ^ w) b (2 ^ 128) (2 ^ (128 - w)) (number_of_word s w b) (times_width w (word_within w b l).0) (bits_within w b l) (counts s w b (word_within w b l).1))

pub low_multiplied : (s : Bool) (w a b : ℕ) → IsTrue (is_word w a) → IsTrue (is_word w b) →
    (a * b) % 2 ^ 128 % 2 ^ w ≡ low_bits w (number_of_word s w a *ℤ number_of_word s w b)
low_multiplied s w a b h l =
    low_bits_near w (a * b) (number_of_word s w a *ℤ number_of_word s w b) (word_within w a h).0
    (multiplied (2 ^ w) a b (number_of_word s w a) (number_of_word s w b) (counts s w a (word_within w a h).1) (counts s w b (word_within w b l).1))

pub low_shifted : (s : Bool) (w a n : ℕ) → IsTrue (is_word w a) → (a * 2 ^ n) % 2 ^ 128 % 2 ^ w ≡ low_bits w (number_of_word s w a *ℤ pos (2 ^ n))
low_shifted s w a n h =
    low_bits_near w (a * 2 ^ n) (number_of_word s w a *ℤ pos (2 ^ n)) (word_within w a h).0
    (shifted_up (2 ^ w) a (2 ^ n) (number_of_word s w a) (counts s w a (word_within w a h).1))
