-- Integers in two's complement: constants, equality, and how they stand to constants.
use Rattle.std.proofs.Common.{◌≡◌, ℕ, zero, suc, ◌+◌, ◌-◌, ◌*◌, ◌^◌, ◌<◌, ◌≤◌, Bool, true, false, not, ◌&&◌, cond, List, length, drop, get_or, drop-cons, ℤ, pos, negsuc, neg_ℤ, inl, inr, refl, sym, ap, subst, ◌∙◌, arith, eqb, nat_le, nat_lt, unsigned_abs}
use Rattle.std.specs.Prelude.{int_le, int_lt}
use Rattle.std.specs.Bool.{beq}
use Rattle.std.proofs.Math.Nat.{mod-eq_of_lt, pow-le-pow_right, pow-suc}
use Rattle.std.proofs.lemmas.Bool.{cases_eq, eq-eqb, false_from_ne_true, le-leb, lt-leb, ne_eqb}
use Rattle.std.proofs.lemmas.Int.{ints}
use Rattle.std.proofs.lemmas.Nat.{pow_pos}
use mir.Syntax.{w64}
use mir.Val.{SFits}
use Rattle.smv_value.specs.Results.{number_of_word, is_int, low_bits}
use Rattle.smv_value.proofs.Bits.{Near, near}
use Rattle.value_types.proofs.Elements.{both_true, int_le_refl, same_int}
use Rattle.bit_graph.specs.declared.edge.Edge.{Edge}
use Rattle.bit_graph.specs.Meaning.{edge_value}
use Rattle.bit_arith.specs.Number.{bit, number_of, values_of}
use Rattle.bit_arith.specs.Words.{integer, is_negative}
use Rattle.bit_arith.proofs.Horner.{number_of-chosen}
use Rattle.bit_arith.proofs.Numbers.{number-lt, pow_more}
use Rattle.bit_values.specs.Bits.{least_bits}
use Rattle.bit_values.proofs.Widths.{least_width}
use Rattle.bit_operators.specs.Denoting.{integer_of}
use Rattle.bit_operators.specs.Integers.{fits}
use Rattle.bit_operators.proofs.Integers.{counted_near, integer_fits, low_bits_exact}
use Rattle.bit_operators.proofs.Discretes.{same_integer}
use Rattle.bit_operators.proofs.OfSums.{minus_size}

-- an integer of so many bits, and one that they do not hold
pub below_apart : (n : ℕ) (x z : ℤ) → fits n x ≡ true → fits n z ≡ false → int_lt x z ≡ int_lt (pos 0) z
below_apart n x z h k = grind (arith, ints)

pub above_apart : (n : ℕ) (x z : ℤ) → fits n x ≡ true → fits n z ≡ false → int_lt z x ≡ int_lt z (pos 0)
above_apart n x z h k = grind (arith, ints)

pub holds : (v : ℕ → Bool) (es : List Edge) → fits (length es) (integer_of v es) ≡ true
holds v es = integer_fits (length es) (number_of v es) (number-lt (edge_value v) es)

pub not_below : (x y : ℤ) → not (int_lt x y) ≡ int_le y x
not_below x y = grind (arith, ints)

-- numbers of one width are equal where their integers are
pub same_numbers : (w m n : ℕ) → m < 2 ^ w → n < 2 ^ w → eqb m n ≡ (int_le (integer w m) (integer w n) && int_le (integer w n) (integer w m))
same_numbers w m n l k =
    elim (cases_eq m n) [
      | inl e ↦
          eq-eqb m n e
          ∙ sym (ap (λ x. int_le (integer w x) (integer w n) && int_le (integer w n) (integer w x)) e
          ∙ both_true (int_le (integer w n) (integer w n)) (int_le (integer w n) (integer w n)) (int_le_refl (integer w n)) (int_le_refl (integer w n)))
      | inr o ↦
          ne_eqb m n o
          ∙ sym (false_from_ne_true (int_le (integer w m) (integer w n) && int_le (integer w n) (integer w m))
          (λ t. o (low_bits_exact w m (integer w m) l (counted_near true w m l) ∙ ap (low_bits w) (same_int (integer w m) (integer w n) t)
          ∙ sym (low_bits_exact w n (integer w n) k (counted_near true w n k)))))
    ]

pub integer-zero : (w : ℕ) → integer w 0 ≡ pos 0
integer-zero w = ap (λ b. cond b (neg_ℤ (pos (2 ^ w - 0))) (pos 0)) (lt-leb (2 ^ w) (2 * 0) (omega (arith, pow_pos w)))

and_turned : (a b : Bool) → (a && b) ≡ (b && a)
and_turned true true = refl
and_turned true false = refl
and_turned false true = refl
and_turned false false = refl

pub zero_number : (w m : ℕ) → m < 2 ^ w → eqb m 0 ≡ (int_le (pos 0) (integer w m) && int_le (integer w m) (pos 0))
zero_number w m l =
    same_numbers w m 0 l (pow_pos w) ∙ (λ i. int_le (integer w m) (integer-zero w i) && int_le (integer-zero w i) (integer w m))
    ∙ and_turned (int_le (integer w m) (pos 0)) (int_le (pos 0) (integer w m))

-- a number whose highest bit is not set
pub integer_small : (w m : ℕ) → 2 * m < 2 ^ w → integer w m ≡ pos m
integer_small w m l = ap (λ b. cond b (neg_ℤ (pos (2 ^ w - m))) (pos m)) (lt-leb (2 ^ w) (2 * m) l)

integer_large : (w m : ℕ) → 2 ^ w ≤ 2 * m → integer w m ≡ neg_ℤ (pos (2 ^ w - m))
integer_large w m l = ap (λ b. cond b (neg_ℤ (pos (2 ^ w - m))) (pos m)) (le-leb (2 ^ w) (2 * m) l)

-- what an integer needs, by its size

pub fits_positive : (n a : ℕ) → 2 * a < 2 ^ n → fits n (pos a) ≡ true
fits_positive n a h = grind (arith, ints)

pub fits_negative : (n a : ℕ) → 2 * a ≤ 2 ^ n → fits n (neg_ℤ (pos a)) ≡ true
fits_negative n a h = let some = pow_pos n in grind (arith, ints)

pub fits_wide : (n : ℕ) (z : ℤ) → 64 ≤ n → SFits w64 z → fits n z ≡ true
fits_wide n z l f = let more : 2 ^ 64 ≤ 2 ^ n = pow-le-pow_right (omega arith) l in grind (arith, ints)

pub few_negative : (n : ℕ) (z : ℤ) → int_lt z (pos 0) ≡ true → nat_le (2 * unsigned_abs z) (2 ^ n) ≡ fits n z
few_negative n (pos a) h = grind (arith, ints)
few_negative n (negsuc a) h = grind (arith, ints)

pub few_positive : (n : ℕ) (z : ℤ) → int_lt z (pos 0) ≡ false → nat_lt (2 * unsigned_abs z) (2 ^ n) ≡ fits n z
few_positive n (pos a) h = grind (arith, ints)
few_positive n (negsuc a) h = absurd cc

-- the bits of an integer, by its sign
pub number_of_negative : (n : ℕ) (z : ℤ) → int_lt z (pos 0) ≡ true → fits n z ≡ true → (2 ^ n - unsigned_abs z < 2 ^ n) × (integer n (2 ^ n - unsigned_abs z) ≡ z)
number_of_negative n (pos a) h f = absurd (grind (arith, ints))
number_of_negative n (negsuc a) h f =
    let small : 2 * suc a ≤ 2 ^ n = minus_size n (suc a) f in
    let back : 2 ^ n - (2 ^ n - suc a) ≡ suc a = omega arith in
    (omega arith, integer_large n (2 ^ n - suc a) (omega arith) ∙ ap (λ k. neg_ℤ (pos k)) back)

pub number_of_positive : (n : ℕ) (z : ℤ) → int_lt z (pos 0) ≡ false → fits n z ≡ true → (unsigned_abs z < 2 ^ n) × (integer n (unsigned_abs z) ≡ z)
number_of_positive n (pos a) h f =
    let small : a + a < 2 ^ n = grind (arith, ints) in
    (omega arith, integer_small n a (omega arith))
number_of_positive n (negsuc a) h f = absurd cc

twice_negated : (k : ℕ) → neg_ℤ (neg_ℤ (pos k)) ≡ pos (unsigned_abs (neg_ℤ (pos k)))
twice_negated zero = refl
twice_negated (suc k) = refl

-- the size of an integer, by its sign
pub absolute_is : (w m : ℕ) (b : Bool) → is_negative w m ≡ b → cond b (neg_ℤ (integer w m)) (integer w m) ≡ pos (unsigned_abs (integer w m))
absolute_is w m true e =
    let is : integer w m ≡ neg_ℤ (pos (2 ^ w - m)) = ap (λ b. cond b (neg_ℤ (pos (2 ^ w - m))) (pos m)) e in
    ap neg_ℤ is ∙ twice_negated (2 ^ w - m) ∙ ap (λ z. pos (unsigned_abs z)) (sym is)
absolute_is w m false e =
    let is : integer w m ≡ pos m = ap (λ b. cond b (neg_ℤ (pos (2 ^ w - m))) (pos m)) e in
    is ∙ ap (λ z. pos (unsigned_abs z)) (sym is)

-- two edges are alike where their bits are
pub alike_bits : (x y : Bool) → beq x y ≡ eqb (bit x) (bit y)
alike_bits true true = refl
alike_bits true false = refl
alike_bits false true = refl
alike_bits false false = refl

-- a power past 128 bits is past each number of 128 bits
pub too_wide : (w n : ℕ) → 128 ≤ w → n < 2 ^ 128 → 2 ^ w ≤ n → ⊥
too_wide w n h l m =
    let most : 2 ^ 128 ≤ 2 ^ w = pow-le-pow_right (omega arith) h in
    omega arith

below_power : (n w : ℕ) → w ≡ least_bits n → n ≤ 2 ^ w
below_power n w f = let P : ℕ → Type 0 = λ k. n ≤ 2 ^ k in subst P (sym f) (least_width n).fits

next_power : (k : ℕ) → 2 ^ (1 + k) ≡ 2 * 2 ^ k
next_power k = (let e : 1 + k ≡ suc k = omega arith in ap (λ n. 2 ^ n) e) ∙ pow-suc 2 k ∙ (let e : 2 ^ k * 2 ≡ 2 * 2 ^ k = omega arith in e)

pub width_of_negative : (z : ℤ) (n w : ℕ) → int_lt z (pos 0) ≡ true → n ≡ unsigned_abs z → w ≡ least_bits n → fits (1 + w) z ≡ true
width_of_negative (pos a) n w h e f = absurd (grind (arith, ints))
width_of_negative (negsuc a) n w h e f =
    let most : n ≤ 2 ^ w = below_power n w f in
    let double = next_power w in
    fits_negative (1 + w) (suc a) (omega arith)

pub width_of_positive : (z : ℤ) (n w : ℕ) → int_lt z (pos 0) ≡ false → n ≡ unsigned_abs z → w ≡ least_bits (n + 1) → fits (1 + w) z ≡ true
width_of_positive (pos a) n w h e f =
    let most : n + 1 ≤ 2 ^ w = below_power (n + 1) w f in
    let double = next_power w in
    fits_positive (1 + w) a (omega arith)
width_of_positive (negsuc a) n w h e f = absurd cc

-- one of two integers, in a width that holds both
pub chosen_integer : (v : ℕ → Bool) (c : Bool) (a b l m r : List Edge) (w : ℕ) → length a ≤ w → length b ≤ w → length l ≡ w → length m ≡ w → length r ≡ w →
    number_of v l ≡ low_bits w (integer_of v a) → number_of v m ≡ low_bits w (integer_of v b) → values_of v r ≡ cond c (values_of v l) (values_of v m) →
    integer_of v r ≡ cond c (integer_of v a) (integer_of v b)
chosen_integer v true a b l m r w ha hb ll lm lr el em er =
    (λ i. integer ((lr ∙ sym ll) i) (number_of-chosen v true r l m er i)) ∙ same_integer v a l w ha ll el
chosen_integer v false a b l m r w ha hb ll lm lr el em er =
    (λ i. integer ((lr ∙ sym lm) i) (number_of-chosen v false r l m er i)) ∙ same_integer v b m w hb lm em

-- the opposite of an integer below 0, else itself
pub absolute_chosen : (w m : ℕ) (b : Bool) (o : ℤ) → is_negative w m ≡ b → is_int (integer w m) ≡ true → is_int (pos (unsigned_abs (integer w m))) ≡ true →
    (is_int (integer w m) ≡ true → is_int (neg_ℤ (integer w m)) ≡ true → o ≡ neg_ℤ (integer w m)) → cond b o (integer w m) ≡ pos (unsigned_abs (integer w m))
absolute_chosen w m true o e i j h =
    let is : neg_ℤ (integer w m) ≡ pos (unsigned_abs (integer w m)) = absolute_is w m true e in
    h i (ap is_int is ∙ j) ∙ is
absolute_chosen w m false o e i j h = absolute_is w m false e

pub size_below : (z : ℤ) (n : ℕ) → int_lt z (pos 0) ≡ false → n ≡ unsigned_abs z → SFits w64 z → n + 1 ≤ 2 ^ 63
size_below (pos a) n h e f = grind (arith, ints)
size_below (negsuc a) n h e f = absurd cc

-- a number without a sign, in one bit more
pub unsigned_integer : (v : ℕ → Bool) (es r : List Edge) → length r ≡ length es + 1 → number_of v r ≡ low_bits (length es + 1) (pos (number_of v es)) → integer_of v r ≡ pos (number_of v es)
unsigned_integer v es r l h =
    let n = length es in
    let small : number_of v es < 2 ^ n = number-lt (edge_value v) es in
    let double : 2 ^ (n + 1) ≡ 2 * 2 ^ n = pow_more n in
    let less : number_of v es < 2 ^ (n + 1) = omega arith in
    let is : number_of v r ≡ number_of v es = h ∙ mod-eq_of_lt less in
    (λ i. integer (l i) (is i)) ∙ integer_small (n + 1) (number_of v es) (omega arith)

-- integers are equal where their numbers in a common width are
pub equal_by_numbers : (v : ℕ → Bool) (a b l m : List Edge) (w : ℕ) → length a ≤ w → length b ≤ w → length l ≡ w → length m ≡ w →
    number_of v l ≡ low_bits w (integer_of v a) → number_of v m ≡ low_bits w (integer_of v b) →
    eqb (number_of v l) (number_of v m) ≡ (int_le (integer_of v a) (integer_of v b) && int_le (integer_of v b) (integer_of v a))
equal_by_numbers v a b l m w ha hb ll lm el em =
    let below : (es : List Edge) → length es ≡ w → number_of v es < 2 ^ w =
    λ es e. (let P : ℕ → Type 0 = λ n. number_of v es < 2 ^ n in subst P e (number-lt (edge_value v) es)) in
    let left : integer w (number_of v l) ≡ integer_of v a = ap (λ n. integer n (number_of v l)) (sym ll) ∙ same_integer v a l w ha ll el in
    let right : integer w (number_of v m) ≡ integer_of v b = ap (λ n. integer n (number_of v m)) (sym lm) ∙ same_integer v b m w hb lm em in
    same_numbers w (number_of v l) (number_of v m) (below l ll) (below m lm) ∙ (λ i. int_le (left i) (right i) && int_le (right i) (left i))

-- a number past those of the bits
pub no_number : (v : ℕ → Bool) (es : List Edge) (n : ℕ) → 2 ^ length es ≤ n → false ≡ eqb (number_of v es) n
no_number v es n h = sym (ne_eqb (number_of v es) n (λ e. omega (arith, number-lt (edge_value v) es)))

-- one bit more from below
pub known_more : (v : ℕ → Bool) (es : List Edge) (i : ℕ) (d : Edge) (n b : ℕ) → i < length es → number_of v (drop (i + 1) es) ≡ n → bit (edge_value v (get_or es i d)) ≡ b →
    number_of v (drop i es) ≡ 2 * n + b
known_more v es i d n b l h g =
    ap (number_of v) (drop-cons es i d l) ∙ (let e : drop (suc i) es ≡ drop (i + 1) es = ap (λ k. drop k es) (let q : suc i ≡ i + 1 = omega arith in q) in
    (λ t. g t + 2 * (ap (number_of v) e ∙ h) t)) ∙ omega arith

pub known_bound : (n i m b : ℕ) → 0 < i → i ≤ n → b ≤ 1 → m < 2 ^ (n - i) → 2 * m + b < 2 ^ (n - (i - 1))
known_bound n i m b some l one h =
    let e : n - (i - 1) ≡ suc (n - i) = omega arith in
    let double : 2 ^ (n - (i - 1)) ≡ 2 ^ (n - i) * 2 = ap (λ k. 2 ^ k) e ∙ pow-suc 2 (n - i) in
    omega arith
