-- Sums, differences and products of words, and of integers in two's complement.
use Rattle.std.proofs.Common.{◌≡◌, ℕ, zero, suc, ◌+◌, ◌-◌, ◌*◌, ◌/◌, ◌%◌, ◌^◌, ◌<◌, ◌≤◌, ◌⊎◌, inl, inr, Bool, true, false, ◌&&◌, cond, max, min, ℤ, pos, negsuc, neg_ℤ, ◌+ℤ◌, ◌-ℤ◌, ◌*ℤ◌, ◌≤ℤ◌, ◌<ℤ◌, IsTrue, List, length, refl, sym, ap, subst, ◌∙◌, arith, add-one, nat_le, nat_lt}
use Rattle.std.specs.Prelude.{int_le, int_lt}
use Rattle.std.proofs.Math.Nat.{pow-le-pow_right, mod-lt, pow-suc, mul-le-mul}
use Rattle.std.proofs.lemmas.Bool.{cases_Bool, cases_lt, le-leb, lt-ltb}
use Rattle.std.proofs.lemmas.Int.{ints}
use Rattle.std.proofs.lemmas.Nat.{div-add-mod', pow-add, pow_pos}
use Rattle.smv_value.specs.declared.operator.Arithmetic.{Arithmetic}
use Rattle.smv_value.specs.declared.operator.Arithmetic.TheVariants as sum
use Rattle.smv_value.specs.Results.{number_of_word, is_int, is_width, is_word, low_bits, sum_of}
use Rattle.smv_value.proofs.Bits.{Near, near, low_of_128, low_multiplied}
use Rattle.bit_arith.specs.Words.{difference, integer, opposite}
use Rattle.bit_arith.specs.Number.{number_of}
use Rattle.bit_arith.proofs.Numbers.{number-lt}
use Rattle.bit_graph.specs.declared.edge.Edge.{Edge}
use Rattle.bit_graph.specs.Meaning.{edge_value}
use Rattle.value_types.proofs.Elements.{and_left, and_right, both_true}
use Rattle.bit_operators.specs.Denoting.{integer_of}
use Rattle.bit_operators.specs.Integers.{bounded, fits, sum_rule}
use Rattle.bit_operators.proofs.Integers.{counted_near, integer_fits, low_bits_exact, low_bits_near, near_integer}

-- what the circuit of a sum gives
abbrev pub circuit : Arithmetic → ℕ → ℕ → ℕ → ℕ
circuit sum.Add w a b = (a + b) % 2 ^ w
circuit sum.Subtract w a b = difference w a b
circuit sum.Multiply w a b = (a * b) % 2 ^ w

add_near : (p a b : ℕ) (x y : ℤ) → Near p a x → Near p b y → Near p (a + b) (x +ℤ y)
add_near p a b x y (near k j e) (near l i f) = near (k + l) (j + i) (omega (arith, ints, e, f))

subtract_near : (p a b : ℕ) (x y : ℤ) → b ≤ p → Near p a x → Near p b y → Near p (a + p - b) (x -ℤ y)
subtract_near p a b x y h (near k j e) (near l i f) = near (k + i + 1) (j + l) (omega (arith, ints, e, f))

negate_near : (p b : ℕ) (y : ℤ) → b ≤ p → Near p b y → Near p (p - b) (neg_ℤ y)
negate_near p b y h (near l i f) = near (i + 1) l (omega (arith, ints, f))

word_is : (w a : ℕ) → is_width w ≡ true → a < 2 ^ w → IsTrue (is_word w a)
word_is w a h l = both_true (is_width w) (nat_lt a (2 ^ w)) h (lt-ltb a (2 ^ w) l)

pub sum_low : (o : Arithmetic) (s : Bool) (w a b : ℕ) → is_width w ≡ true → a < 2 ^ w → b < 2 ^ w →
    circuit o w a b ≡ low_bits w (sum_of o (number_of_word s w a) (number_of_word s w b))
sum_low sum.Add s w a b h l m =
    sym (low_bits_near w (a + b) (number_of_word s w a +ℤ number_of_word s w b) (add_near (2 ^ w) a b (number_of_word s w a) (number_of_word s w b) (counted_near s w a l) (counted_near s w b m)))
sum_low sum.Subtract s w a b h l m =
    sym (low_bits_near w (a + 2 ^ w - b) (number_of_word s w a -ℤ number_of_word s w b)
    (subtract_near (2 ^ w) a b (number_of_word s w a) (number_of_word s w b) (omega arith) (counted_near s w a l) (counted_near s w b m)))
sum_low sum.Multiply s w a b h l m =
    sym (low_of_128 w (a * b) h) ∙ low_multiplied s w a b (word_is w a h l) (word_is w b h m)

pub negate_low : (s : Bool) (w b : ℕ) → b < 2 ^ w → opposite w b ≡ low_bits w (neg_ℤ (number_of_word s w b))
negate_low s w b m = sym (low_bits_near w (2 ^ w - b) (neg_ℤ (number_of_word s w b)) (negate_near (2 ^ w) b (number_of_word s w b) (omega arith) (counted_near s w b m)))

-- which integers so many bits hold

pub fits_more : (m n : ℕ) (z : ℤ) → m ≤ n → fits m z ≡ true → fits n z ≡ true
fits_more m n z l h =
    let more : 2 ^ m ≤ 2 ^ n = pow-le-pow_right (omega arith) l in
    grind (arith, ints)

pub int_fits : (z : ℤ) → is_int z ≡ true → fits 32 z ≡ true
int_fits z h = grind (arith, ints)

pub fits_within : (m n : ℕ) (z : ℤ) → (m ≤ n) ⊎ (32 ≤ n) → fits m z ≡ true → is_int z ≡ true → fits n z ≡ true
fits_within m n z (inl l) h k = fits_more m n z l h
fits_within m n z (inr l) h k = fits_more 32 n z l (int_fits z k)

pub within_bound : (m n : ℕ) → m ≤ n → (m ≤ bounded n) ⊎ (32 ≤ bounded n)
within_bound m n l =
    elim (cases_lt m 33) [
      | inl few ↦ (elim (cases_lt n 33) [
        | inl less ↦ inl (omega arith)
        | inr more ↦ inr (omega arith)
      ])
      | inr many ↦ inr (omega arith)
    ]

pub fits_bounded : (m n : ℕ) (z : ℤ) → m ≤ n → fits m z ≡ true → is_int z ≡ true → fits (bounded n) z ≡ true
fits_bounded m n z l h k = fits_within m (bounded n) z (within_bound m n l) h k

fits_low : (n : ℕ) (z : ℤ) → fits n z ≡ true → neg_ℤ (pos (2 ^ n)) ≤ℤ (z +ℤ z)
fits_low n z h = grind (arith, ints)

fits_high : (n : ℕ) (z : ℤ) → fits n z ≡ true → (z +ℤ z) <ℤ pos (2 ^ n)
fits_high n z h = grind (arith, ints)

fits_by : (n : ℕ) (z : ℤ) → neg_ℤ (pos (2 ^ n)) ≤ℤ (z +ℤ z) → (z +ℤ z) <ℤ pos (2 ^ n) → fits n z ≡ true
fits_by n z l h = grind (arith, ints)

doubled : (k : ℕ) → 2 ^ (k + 1) ≡ 2 ^ k * 2
doubled k = ap (λ n. 2 ^ n) (add-one k) ∙ pow-suc 2 k

add_low : (p q r : ℕ) (x y : ℤ) → p ≤ r → q ≤ r → neg_ℤ (pos p) ≤ℤ (x +ℤ x) → neg_ℤ (pos q) ≤ℤ (y +ℤ y) → neg_ℤ (pos (r * 2)) ≤ℤ ((x +ℤ y) +ℤ (x +ℤ y))
add_low p q r x y l m h k = omega (arith, ints)

add_high : (p q r : ℕ) (x y : ℤ) → p ≤ r → q ≤ r → (x +ℤ x) <ℤ pos p → (y +ℤ y) <ℤ pos q → ((x +ℤ y) +ℤ (x +ℤ y)) <ℤ pos (r * 2)
add_high p q r x y l m h k = omega (arith, ints)

subtract_low : (p q r : ℕ) (x y : ℤ) → p ≤ r → q ≤ r → neg_ℤ (pos p) ≤ℤ (x +ℤ x) → (y +ℤ y) <ℤ pos q → neg_ℤ (pos (r * 2)) ≤ℤ ((x -ℤ y) +ℤ (x -ℤ y))
subtract_low p q r x y l m h k = omega (arith, ints)

subtract_high : (p q r : ℕ) (x y : ℤ) → p ≤ r → q ≤ r → (x +ℤ x) <ℤ pos p → neg_ℤ (pos q) ≤ℤ (y +ℤ y) → ((x -ℤ y) +ℤ (x -ℤ y)) <ℤ pos (r * 2)
subtract_high p q r x y l m h k = omega (arith, ints)

pub add_fits : (m n k : ℕ) (x y : ℤ) → m ≤ k → n ≤ k → fits m x ≡ true → fits n y ≡ true → fits (k + 1) (x +ℤ y) ≡ true
add_fits m n k x y l r h i =
    let p : 2 ^ m ≤ 2 ^ k = pow-le-pow_right (omega arith) l in
    let q : 2 ^ n ≤ 2 ^ k = pow-le-pow_right (omega arith) r in
    fits_by (k + 1) (x +ℤ y)
    (subst (λ u. neg_ℤ (pos u) ≤ℤ ((x +ℤ y) +ℤ (x +ℤ y))) (sym (doubled k)) (add_low (2 ^ m) (2 ^ n) (2 ^ k) x y p q (fits_low m x h) (fits_low n y i)))
    (subst (λ u. ((x +ℤ y) +ℤ (x +ℤ y)) <ℤ pos u) (sym (doubled k)) (add_high (2 ^ m) (2 ^ n) (2 ^ k) x y p q (fits_high m x h) (fits_high n y i)))

pub subtract_fits : (m n k : ℕ) (x y : ℤ) → m ≤ k → n ≤ k → fits m x ≡ true → fits n y ≡ true → fits (k + 1) (x -ℤ y) ≡ true
subtract_fits m n k x y l r h i =
    let p : 2 ^ m ≤ 2 ^ k = pow-le-pow_right (omega arith) l in
    let q : 2 ^ n ≤ 2 ^ k = pow-le-pow_right (omega arith) r in
    fits_by (k + 1) (x -ℤ y)
    (subst (λ u. neg_ℤ (pos u) ≤ℤ ((x -ℤ y) +ℤ (x -ℤ y))) (sym (doubled k)) (subtract_low (2 ^ m) (2 ^ n) (2 ^ k) x y p q (fits_low m x h) (fits_high n y i)))
    (subst (λ u. ((x -ℤ y) +ℤ (x -ℤ y)) <ℤ pos u) (sym (doubled k)) (subtract_high (2 ^ m) (2 ^ n) (2 ^ k) x y p q (fits_high m x h) (fits_low n y i)))

-- an integer by its sign and its size
data Sized (z : ℤ) : Type 0 where
  plus : (a : ℕ) → z ≡ pos a → Sized z
  minus : (a : ℕ) → z ≡ neg_ℤ (pos a) → Sized z

sized : (z : ℤ) → Sized z
sized (pos a) = plus a refl
sized (negsuc a) = minus (suc a) refl

pub plus_size : (n a : ℕ) → fits n (pos a) ≡ true → 2 * a ≤ 2 ^ n
plus_size n a h = grind (arith, ints)

pub minus_size : (n a : ℕ) → fits n (neg_ℤ (pos a)) ≡ true → 2 * a ≤ 2 ^ n
minus_size n a h = grind (arith, ints)

pub plus_fits : (n a : ℕ) → 4 * a ≤ 2 ^ n → 0 < 2 ^ n → fits n (pos a) ≡ true
plus_fits n a h l = grind (arith, ints)

pub minus_fits : (n a : ℕ) → 4 * a ≤ 2 ^ n → fits n (neg_ℤ (pos a)) ≡ true
minus_fits n a h = let some = pow_pos n in grind (arith, ints)

product_small : (m n a b : ℕ) → 2 * a ≤ 2 ^ m → 2 * b ≤ 2 ^ n → 4 * (a * b) ≤ 2 ^ (m + n)
product_small m n a b h k =
    let both : (2 * a) * (2 * b) ≤ 2 ^ m * 2 ^ n = mul-le-mul h k in
    let power : 2 ^ (m + n) ≡ 2 ^ m * 2 ^ n = pow-add 2 m n in
    omega (arith, both, power)

plus_minus : (a b : ℕ) → pos a *ℤ neg_ℤ (pos b) ≡ neg_ℤ (pos (a * b))
plus_minus a zero = let e : a * 0 ≡ 0 = omega arith in ap (λ n. pos n) e ∙ sym (ap (λ n. neg_ℤ (pos n)) e)
plus_minus a (suc b) = refl

minus_plus : (a b : ℕ) → neg_ℤ (pos a) *ℤ pos b ≡ neg_ℤ (pos (a * b))
minus_plus zero b = omega (arith, ints)
minus_plus (suc a) b = refl

minus_minus : (a b : ℕ) → neg_ℤ (pos a) *ℤ neg_ℤ (pos b) ≡ pos (a * b)
minus_minus zero zero = refl
minus_minus zero (suc b) = omega (arith, ints)
minus_minus (suc a) zero = omega (arith, ints)
minus_minus (suc a) (suc b) = refl

product_at : (m n : ℕ) (x y : ℤ) → Sized x → Sized y → fits m x ≡ true → fits n y ≡ true → fits (m + n) (x *ℤ y) ≡ true
product_at m n x y (plus a e) (plus b f) h k =
    ap (fits (m + n)) (λ i. e i *ℤ f i)
    ∙ plus_fits (m + n) (a * b) (product_small m n a b (plus_size m a (ap (fits m) (sym e) ∙ h)) (plus_size n b (ap (fits n) (sym f) ∙ k))) (pow_pos (m + n))
product_at m n x y (plus a e) (minus b f) h k =
    ap (fits (m + n)) ((λ i. e i *ℤ f i) ∙ plus_minus a b)
    ∙ minus_fits (m + n) (a * b) (product_small m n a b (plus_size m a (ap (fits m) (sym e) ∙ h)) (minus_size n b (ap (fits n) (sym f) ∙ k)))
product_at m n x y (minus a e) (plus b f) h k =
    ap (fits (m + n)) ((λ i. e i *ℤ f i) ∙ minus_plus a b)
    ∙ minus_fits (m + n) (a * b) (product_small m n a b (minus_size m a (ap (fits m) (sym e) ∙ h)) (plus_size n b (ap (fits n) (sym f) ∙ k)))
product_at m n x y (minus a e) (minus b f) h k =
    ap (fits (m + n)) ((λ i. e i *ℤ f i) ∙ minus_minus a b)
    ∙ plus_fits (m + n) (a * b) (product_small m n a b (minus_size m a (ap (fits m) (sym e) ∙ h)) (minus_size n b (ap (fits n) (sym f) ∙ k))) (pow_pos (m + n))

pub product_fits : (m n : ℕ) (x y : ℤ) → fits m x ≡ true → fits n y ≡ true → fits (m + n) (x *ℤ y) ≡ true
product_fits m n x y h k = product_at m n x y (sized x) (sized y) h k

low_near : (n : ℕ) (z : ℤ) → Near (2 ^ n) (low_bits n z) z
low_near n (pos c) = near 0 (c / 2 ^ n) (let d = div-add-mod' c (2 ^ n) in omega (arith, ints, d))
low_near n (negsuc c) =
    let d = div-add-mod' c (2 ^ n) in
    let l : c % 2 ^ n < 2 ^ n = mod-lt c (pow_pos n) in
    near (c / 2 ^ n + 1) 0 (omega (arith, ints, d, l))

-- the integer whose low bits these are
pub low_integer : (n m : ℕ) (z : ℤ) → m < 2 ^ n → m ≡ low_bits n z → fits n z ≡ true → integer n m ≡ z
low_integer n m z l e h = near_integer n m z l (subst (λ x. Near (2 ^ n) x z) (sym e) (low_near n z)) h

rule_left : (o : Arithmetic) (m n : ℕ) → m ≤ sum_rule o m n
rule_left sum.Add m n = omega arith
rule_left sum.Subtract m n = omega arith
rule_left sum.Multiply m n = omega arith

rule_right : (o : Arithmetic) (m n : ℕ) → n ≤ sum_rule o m n
rule_right sum.Add m n = omega arith
rule_right sum.Subtract m n = omega arith
rule_right sum.Multiply m n = omega arith

rule_fits : (o : Arithmetic) (m n : ℕ) (x y : ℤ) → fits m x ≡ true → fits n y ≡ true → fits (sum_rule o m n) (sum_of o x y) ≡ true
rule_fits sum.Add m n x y h k = add_fits m n (max m n) x y (omega arith) (omega arith) h k
rule_fits sum.Subtract m n x y h k = subtract_fits m n (max m n) x y (omega arith) (omega arith) h k
rule_fits sum.Multiply m n x y h k = product_fits m n x y h k

pub bounded_width : (n : ℕ) → is_width (bounded n) ≡ true
bounded_width n = both_true (nat_le 1 (bounded n)) (nat_le (bounded n) 128) (le-leb 1 (bounded n) (omega arith)) (le-leb (bounded n) 128 (omega arith))

-- the integer of a sum, by the low bits of both sides
pub sum_integer : (o : Arithmetic) (m n : ℕ) (x y : ℤ) (a b r : ℕ) → fits m x ≡ true → fits n y ≡ true → is_int x ≡ true → is_int y ≡ true → is_int (sum_of o x y) ≡ true →
    a < 2 ^ bounded (sum_rule o m n) → b < 2 ^ bounded (sum_rule o m n) → r < 2 ^ bounded (sum_rule o m n) →
    a ≡ low_bits (bounded (sum_rule o m n)) x → b ≡ low_bits (bounded (sum_rule o m n)) y →
    r ≡ low_bits (bounded (sum_rule o m n)) (sum_of o (number_of_word true (bounded (sum_rule o m n)) a) (number_of_word true (bounded (sum_rule o m n)) b)) →
    integer (bounded (sum_rule o m n)) r ≡ sum_of o x y
sum_integer o m n x y a b r fx fy ix iy iz la lb lr ea eb er =
    let w = bounded (sum_rule o m n) in
    let left : integer w a ≡ x = low_integer w a x la ea (fits_bounded m (sum_rule o m n) x (rule_left o m n) fx ix) in
    let right : integer w b ≡ y = low_integer w b y lb eb (fits_bounded n (sum_rule o m n) y (rule_right o m n) fy iy) in
    low_integer w r (sum_of o x y) lr (er ∙ (λ i. low_bits w (sum_of o (left i) (right i))))
    (fits_bounded (sum_rule o m n) (sum_rule o m n) (sum_of o x y) (omega arith) (rule_fits o m n x y fx fy) iz)

-- what the edges of a sum are, by its circuit
pub sum_bits_are : (v : ℕ → Bool) (o p : Arithmetic) (s : Bool) (l m r : List Edge) → p ≡ o → length l ≡ length m → is_width (length l) ≡ true →
    number_of v r ≡ circuit o (length l) (number_of v l) (number_of v m) →
    number_of v r ≡ low_bits (length l) (sum_of p (number_of_word s (length l) (number_of v l)) (number_of_word s (length l) (number_of v m)))
sum_bits_are v o p s l m r po lm w h =
    let right : number_of v m < 2 ^ length l = (let P : ℕ → Type 0 = λ n. number_of v m < 2 ^ n in subst P (sym lm) (number-lt (edge_value v) m)) in
    h ∙ sum_low o s (length l) (number_of v l) (number_of v m) w (number-lt (edge_value v) l) right
    ∙ ap (λ q. low_bits (length l) (sum_of q (number_of_word s (length l) (number_of v l)) (number_of_word s (length l) (number_of v m)))) (sym po)

-- the integer of a sum's edges, where both operands stand in its width
pub sum_integer_is : (v : ℕ → Bool) (o : Arithmetic) (a b l m r : List Edge) (w : ℕ) → w ≡ bounded (sum_rule o (length a) (length b)) → length l ≡ w → length m ≡ w → length r ≡ w →
    number_of v l ≡ low_bits w (integer_of v a) → number_of v m ≡ low_bits w (integer_of v b) →
    (is_width (length l) ≡ true → number_of v r ≡ low_bits (length l) (sum_of o (number_of_word true (length l) (number_of v l)) (number_of_word true (length l) (number_of v m)))) →
    is_int (integer_of v a) ≡ true → is_int (integer_of v b) ≡ true → is_int (sum_of o (integer_of v a) (integer_of v b)) ≡ true →
    integer_of v r ≡ sum_of o (integer_of v a) (integer_of v b)
sum_integer_is v o a b l m r w ew ll lm lr el em er ix iy iz =
    let rule = bounded (sum_rule o (length a) (length b)) in
    let below : (es : List Edge) → length es ≡ w → number_of v es < 2 ^ rule =
    λ es e. (let P : ℕ → Type 0 = λ n. number_of v es < 2 ^ n in subst P (e ∙ ew) (number-lt (edge_value v) es)) in
    let fx : fits (length a) (integer_of v a) ≡ true = integer_fits (length a) (number_of v a) (number-lt (edge_value v) a) in
    let fy : fits (length b) (integer_of v b) ≡ true = integer_fits (length b) (number_of v b) (number-lt (edge_value v) b) in
    let wide : is_width (length l) ≡ true = ap is_width (ll ∙ ew) ∙ bounded_width (sum_rule o (length a) (length b)) in
    let sum : number_of v r ≡ low_bits rule (sum_of o (number_of_word true rule (number_of v l)) (number_of_word true rule (number_of v m))) =
    er wide ∙ ap (λ n. low_bits n (sum_of o (number_of_word true n (number_of v l)) (number_of_word true n (number_of v m)))) (ll ∙ ew) in
    ap (λ n. integer n (number_of v r)) (lr ∙ ew)
    ∙ sum_integer o (length a) (length b) (integer_of v a) (integer_of v b) (number_of v l) (number_of v m) (number_of v r) fx fy ix iy iz
    (below l ll) (below m lm) (below r lr) (el ∙ ap (λ n. low_bits n (integer_of v a)) ew) (em ∙ ap (λ n. low_bits n (integer_of v b)) ew) sum
