-- Quotients and remainders of words, and of integers in two's complement.
use Rattle.std.proofs.Common.{◌≡◌, ℕ, zero, suc, ◌+◌, ◌-◌, ◌*◌, ◌/◌, ◌%◌, ◌^◌, ◌<◌, ◌≤◌, Bool, true, false, ◌&&◌, cond, List, length, max, min, ℤ, pos, negsuc, neg_ℤ, inl, inr, refl, sym, ap, subst, ◌∙◌, arith, eqb, unsigned_abs}
use Rattle.std.specs.Prelude.{int_div, int_rem}
use Rattle.std.proofs.Math.Nat.{div-le_self, mod-add-mod, mod-eq_of_lt, mod-le, mod-lt, mod_self, pow-le-pow_right}
use Rattle.std.proofs.lemmas.Bool.{cases_lt, eqb-true, false_from_ne_true}
use Rattle.std.proofs.lemmas.Int.{ints}
use Rattle.std.proofs.lemmas.Nat.{pow_pos}
use Rattle.smv_value.specs.declared.operator.Division.{Division}
use Rattle.smv_value.specs.declared.operator.Division.TheVariants as division
use Rattle.smv_value.specs.Results.{number_of_word, divided, is_int, low_bits}
use Rattle.bit_graph.specs.declared.edge.Edge.{Edge}
use Rattle.bit_graph.specs.Meaning.{edge_value}
use Rattle.bit_arith.specs.Number.{number_of}
use Rattle.bit_arith.specs.Words.{code, integer, is_negative, quotient, remainder}
use Rattle.bit_arith.proofs.Numbers.{number-lt, pow_more}
use Rattle.bit_operators.specs.Denoting.{integer_of}
use Rattle.bit_operators.specs.Integers.{bounded, fits}
use Rattle.bit_operators.proofs.Integers.{integer_fits}
use Rattle.bit_operators.proofs.OfSums.{fits_bounded, low_integer, minus_fits, minus_size, plus_fits, plus_size}
use Rattle.bit_numbers.specs.Divisions.{division_rule}
use Rattle.bit_numbers.proofs.OfIntegers.{fits_negative, fits_positive, integer-zero}

turned_rest : (p m : ℕ) → 0 < p → (p - suc m % p) % p ≡ p - 1 - m % p
turned_rest p m h =
    let low : m % p < p = mod-lt m h in
    let next : suc m % p ≡ (m % p + 1) % p = ap (λ n. n % p) (let e : suc m ≡ m + 1 = omega arith in e) ∙ sym (mod-add-mod m p 1) in
    elim (cases_lt (m % p + 1) p) [
      | inl less ↦
          let small : p - (m % p + 1) < p = omega arith in
          let is : p - (m % p + 1) ≡ p - 1 - m % p = omega arith in
          ap (λ n. (p - n) % p) (next ∙ mod-eq_of_lt less) ∙ mod-eq_of_lt small ∙ is
      | inr more ↦
          let whole : m % p + 1 ≡ p = omega arith in
          let left : p - 0 ≡ p = omega arith in
          let none : 0 ≡ p - 1 - m % p = omega arith in
          ap (λ n. (p - n) % p) (next ∙ ap (λ n. n % p) whole ∙ mod_self p) ∙ ap (λ n. n % p) left ∙ mod_self p ∙ none
    ]

-- the low bits of an integer
pub code_low : (n : ℕ) (z : ℤ) → code n z ≡ low_bits n z
code_low n (pos m) = refl
code_low n (negsuc m) = turned_rest (2 ^ n) m (pow_pos n)

-- what the circuit gives
abbrev pub circuit : Division → Bool → ℕ → ℕ → ℕ → ℕ
circuit division.Quotient s w a b = quotient s w a b
circuit division.Remainder s w a b = remainder s w a b

quotient_low : (s : Bool) (w a b : ℕ) → a < 2 ^ w → eqb b 0 ≡ false → quotient s w a b ≡ low_bits w (int_div (number_of_word s w a) (number_of_word s w b))
quotient_low false w a b l z =
    let less : a / b < 2 ^ w = omega (arith, div-le_self a b) in
    ap (λ c. cond c (2 ^ w - 1) (a / b)) z ∙ sym (mod-eq_of_lt less)
quotient_low true w a b l z =
    ap (λ c. cond c (cond (is_negative w a) 1 (2 ^ w - 1)) (code w (int_div (integer w a) (integer w b)))) z ∙ code_low w (int_div (integer w a) (integer w b))

remainder_low : (s : Bool) (w a b : ℕ) → a < 2 ^ w → eqb b 0 ≡ false → remainder s w a b ≡ low_bits w (int_rem (number_of_word s w a) (number_of_word s w b))
remainder_low false w a b l z =
    let less : a % b < 2 ^ w = omega (arith, mod-le a b) in
    ap (λ c. cond c a (a % b)) z ∙ sym (mod-eq_of_lt less)
remainder_low true w a b l z =
    ap (λ c. cond c a (code w (int_rem (integer w a) (integer w b)))) z ∙ code_low w (int_rem (integer w a) (integer w b))

pub circuit_low : (o : Division) (s : Bool) (w a b : ℕ) → a < 2 ^ w → eqb b 0 ≡ false → circuit o s w a b ≡ low_bits w (divided o (number_of_word s w a) (number_of_word s w b))
circuit_low division.Quotient s w a b l z = quotient_low s w a b l z
circuit_low division.Remainder s w a b l z = remainder_low s w a b l z

-- the edges of a quotient or a remainder, by the circuit
pub divided_bits_are : (v : ℕ → Bool) (o p : Division) (s : Bool) (l m r : List Edge) → p ≡ o → number_of v r ≡ circuit o s (length l) (number_of v l) (number_of v m) →
    eqb (number_of v m) 0 ≡ false → number_of v r ≡ low_bits (length l) (divided p (number_of_word s (length l) (number_of v l)) (number_of_word s (length l) (number_of v m)))
divided_bits_are v o p s l m r po h z =
    h ∙ circuit_low o s (length l) (number_of v l) (number_of v m) (number-lt (edge_value v) l) z
    ∙ ap (λ q. low_bits (length l) (divided q (number_of_word s (length l) (number_of v l)) (number_of_word s (length l) (number_of v m)))) (sym po)

-- a quotient and a remainder are no larger than what is divided

size_negated : (k : ℕ) → unsigned_abs (neg_ℤ (pos k)) ≡ k
size_negated zero = refl
size_negated (suc k) = refl

size_quotient : (x y : ℤ) → unsigned_abs (int_div x y) ≤ unsigned_abs x
size_quotient (pos a) (pos b) = div-le_self a b
size_quotient (pos a) (negsuc b) = subst (λ n. n ≤ a) (sym (size_negated (a / suc b))) (div-le_self a (suc b))
size_quotient (negsuc a) (pos b) = subst (λ n. n ≤ suc a) (sym (size_negated (suc a / b))) (div-le_self (suc a) b)
size_quotient (negsuc a) (negsuc b) = div-le_self (suc a) (suc b)

size_remainder : (x y : ℤ) → unsigned_abs (int_rem x y) ≤ unsigned_abs x
size_remainder (pos a) (pos b) = mod-le a b
size_remainder (pos a) (negsuc b) = mod-le a (suc b)
size_remainder (negsuc a) (pos b) = subst (λ n. n ≤ suc a) (sym (size_negated (suc a % b))) (mod-le (suc a) b)
size_remainder (negsuc a) (negsuc b) = subst (λ n. n ≤ suc a) (sym (size_negated (suc a % suc b))) (mod-le (suc a) (suc b))

size_divided : (o : Division) (x y : ℤ) → unsigned_abs (divided o x y) ≤ unsigned_abs x
size_divided division.Quotient x y = size_quotient x y
size_divided division.Remainder x y = size_remainder x y

size_fits : (m : ℕ) (x : ℤ) → fits m x ≡ true → 2 * unsigned_abs x ≤ 2 ^ m
size_fits m (pos a) h = plus_size m a h
size_fits m (negsuc a) h = minus_size m (suc a) h

fits_size : (n : ℕ) (z : ℤ) → 4 * unsigned_abs z ≤ 2 ^ n → fits n z ≡ true
fits_size n (pos a) h = plus_fits n a h (pow_pos n)
fits_size n (negsuc a) h = minus_fits n (suc a) h

divided_fits : (o : Division) (m k : ℕ) (x y : ℤ) → m ≤ k → fits m x ≡ true → fits (k + 1) (divided o x y) ≡ true
divided_fits o m k x y l h =
    let more : 2 ^ m ≤ 2 ^ k = pow-le-pow_right (omega arith) l in
    fits_size (k + 1) (divided o x y) (omega (arith, more, pow_more k, size_divided o x y, size_fits m x h))

-- the integer of the edges, where both operands stand in this width
pub divided_integer_is : (v : ℕ → Bool) (o : Division) (a b l m r : List Edge) (w : ℕ) → w ≡ bounded (max (length a) (length b) + 1) → length l ≡ w → length m ≡ w → length r ≡ w →
    number_of v l ≡ low_bits w (integer_of v a) → number_of v m ≡ low_bits w (integer_of v b) →
    (eqb (number_of v m) 0 ≡ false → number_of v r ≡ low_bits (length l) (divided o (number_of_word true (length l) (number_of v l)) (number_of_word true (length l) (number_of v m)))) →
    is_int (integer_of v a) ≡ true → is_int (integer_of v b) ≡ true → (integer_of v b ≡ pos 0 → ⊥) → is_int (divided o (integer_of v a) (integer_of v b)) ≡ true →
    integer_of v r ≡ divided o (integer_of v a) (integer_of v b)
divided_integer_is v o a b l m r w ew ll lm lr el em er ix iy some iz =
    let k = max (length a) (length b) in
    let x = integer_of v a in
    let y = integer_of v b in
    let below : (es : List Edge) → length es ≡ w → number_of v es < 2 ^ w =
    λ es e. (let P : ℕ → Type 0 = λ n. number_of v es < 2 ^ n in subst P e (number-lt (edge_value v) es)) in
    let wide : (es : List Edge) → length es ≤ k → is_int (integer_of v es) ≡ true → fits w (integer_of v es) ≡ true =
    λ es g i. ap (λ n. fits n (integer_of v es)) ew ∙ fits_bounded (length es) (k + 1) (integer_of v es) (omega arith) (integer_fits (length es) (number_of v es) (number-lt (edge_value v) es)) i in
    let left : integer w (number_of v l) ≡ x = low_integer w (number_of v l) x (below l ll) el (wide a (omega arith) ix) in
    let right : integer w (number_of v m) ≡ y = low_integer w (number_of v m) y (below m lm) em (wide b (omega arith) iy) in
    let nonzero : eqb (number_of v m) 0 ≡ false =
    false_from_ne_true (eqb (number_of v m) 0) (λ t. some (sym right ∙ ap (integer w) (eqb-true (number_of v m) 0 t) ∙ integer-zero w)) in
    let made : number_of v r ≡ low_bits w (divided o (integer w (number_of v l)) (integer w (number_of v m))) =
    er nonzero ∙ ap (λ n. low_bits n (divided o (number_of_word true n (number_of v l)) (number_of_word true n (number_of v m)))) ll in
    ap (λ n. integer n (number_of v r)) lr
    ∙ low_integer w (number_of v r) (divided o x y) (below r lr) (made ∙ (λ i. low_bits w (divided o (left i) (right i))))
    (ap (λ n. fits n (divided o x y)) ew
    ∙ fits_bounded (k + 1) (k + 1) (divided o x y) (omega arith) (divided_fits o (length a) k x y (omega arith) (integer_fits (length a) (number_of v a) (number-lt (edge_value v) a))) iz)

-- a remainder has no more bits than either integer

below_power : (n a : ℕ) → fits n (pos a) ≡ true → 2 * a < 2 ^ n
below_power n a h = grind (arith, ints)

zero_below : (b : ℕ) → 0 < suc b
zero_below b = omega arith

fits_first : (m : ℕ) (x y : ℤ) → fits m x ≡ true → fits m (int_rem x y) ≡ true
fits_first m (pos a) (pos b) h = fits_positive m (a % b) (omega (arith, below_power m a h, mod-le a b))
fits_first m (pos a) (negsuc b) h = fits_positive m (a % suc b) (omega (arith, below_power m a h, mod-le a (suc b)))
fits_first m (negsuc a) (pos b) h = fits_negative m (suc a % b) (omega (arith, minus_size m (suc a) h, mod-le (suc a) b))
fits_first m (negsuc a) (negsuc b) h = fits_negative m (suc a % suc b) (omega (arith, minus_size m (suc a) h, mod-le (suc a) (suc b)))

fits_second : (n : ℕ) (x y : ℤ) → fits n y ≡ true → (y ≡ pos 0 → ⊥) → fits n (int_rem x y) ≡ true
fits_second n (pos a) (pos zero) h some = absurd (some refl)
fits_second n (pos a) (pos (suc b)) h some = fits_positive n (a % suc b) (omega (arith, below_power n (suc b) h, mod-lt a (zero_below b)))
fits_second n (pos a) (negsuc b) h some = fits_positive n (a % suc b) (omega (arith, minus_size n (suc b) h, mod-lt a (zero_below b)))
fits_second n (negsuc a) (pos zero) h some = absurd (some refl)
fits_second n (negsuc a) (pos (suc b)) h some = fits_negative n (suc a % suc b) (omega (arith, below_power n (suc b) h, mod-lt (suc a) (zero_below b)))
fits_second n (negsuc a) (negsuc b) h some = fits_negative n (suc a % suc b) (omega (arith, minus_size n (suc b) h, mod-lt (suc a) (zero_below b)))

fits_min : (m n : ℕ) (z : ℤ) → fits m z ≡ true → fits n z ≡ true → fits (min m n) z ≡ true
fits_min m n z h k =
    elim (cases_lt m n) [
      | inl less ↦ (let e : m ≡ min m n = omega arith in ap (λ j. fits j z) (sym e) ∙ h)
      | inr more ↦ (let e : n ≡ min m n = omega arith in ap (λ j. fits j z) (sym e) ∙ k)
    ]

rule_fits : (o : Division) (m n : ℕ) (x y : ℤ) → fits m x ≡ true → fits n y ≡ true → (y ≡ pos 0 → ⊥) → fits (division_rule o m n) (divided o x y) ≡ true
rule_fits division.Quotient m n x y h k some = divided_fits division.Quotient m m x y (omega arith) h
rule_fits division.Remainder m n x y h k some = fits_min m n (int_rem x y) (fits_first m x y h) (fits_second n x y k some)

-- the integer in the bits that it needs
pub in_few_bits : (v : ℕ → Bool) (o : Division) (a b whole made : List Edge) (w : ℕ) → w ≡ bounded (division_rule o (length a) (length b)) → length made ≡ w →
    number_of v made ≡ low_bits w (integer_of v whole) → integer_of v whole ≡ divided o (integer_of v a) (integer_of v b) → (integer_of v b ≡ pos 0 → ⊥) →
    is_int (divided o (integer_of v a) (integer_of v b)) ≡ true → integer_of v made ≡ divided o (integer_of v a) (integer_of v b)
in_few_bits v o a b whole made w ew l h e some iz =
    let x = integer_of v a in
    let y = integer_of v b in
    let rule = division_rule o (length a) (length b) in
    let small : number_of v made < 2 ^ w = (let P : ℕ → Type 0 = λ n. number_of v made < 2 ^ n in subst P l (number-lt (edge_value v) made)) in
    let wide : fits w (divided o x y) ≡ true =
    ap (λ n. fits n (divided o x y)) ew
    ∙ fits_bounded rule rule (divided o x y) (omega arith)
    (rule_fits o (length a) (length b) x y (integer_fits (length a) (number_of v a) (number-lt (edge_value v) a)) (integer_fits (length b) (number_of v b) (number-lt (edge_value v) b)) some) iz in
    ap (λ n. integer n (number_of v made)) l ∙ low_integer w (number_of v made) (divided o x y) small (h ∙ ap (low_bits w) e) wide
