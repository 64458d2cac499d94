-- What an operator gives of values is a value.
use Rattle.std.proofs.Common.{◌≡◌, ℕ, zero, suc, ◌+◌, ◌-◌, ◌*◌, ◌/◌, ◌%◌, ◌^◌, ◌<◌, ◌≤◌, ◌==◌, Bool, true, false, not, ◌&&◌, cond, List, [], ◌∷◌, ℤ, pos, negsuc, bit_and, bit_or, bit_xor, nat_lt, refl, sym, ap, subst, ◌∙◌, arith}
use Rattle.std.specs.Prelude.{Option, None, Some, count_by, int_le, int_lt, neg_ℤ, unsigned_abs}
use Rattle.std.specs.Int.{int_max, int_min}
use Rattle.std.specs.Bool.{beq}
use Rattle.std.specs.List.{list_all}
use Rattle.std.proofs.Math.Nat.{mod-lt}
use Rattle.std.proofs.lemmas.Bool.{eqb-true, lt-ltb, ltb-true}
use Rattle.std.proofs.lemmas.Int.{ints}
use Rattle.std.proofs.lemmas.Nat.{and_le_l, or_lt, pow_pos, xor_lt}
use Rattle.smv_value.specs.declared.operator.Logic.{Logic}
use Rattle.smv_value.specs.declared.operator.Logic.TheVariants as logic
use Rattle.smv_value.specs.declared.operator.Order.{Order}
use Rattle.smv_value.specs.declared.operator.Shift.{Shift}
use Rattle.smv_value.specs.declared.operator.Operator.{Operator}
use Rattle.smv_value.specs.declared.operator.Operator.TheVariants as operator
use Rattle.smv_value.specs.declared.value.Value.{Value}
use Rattle.smv_value.specs.declared.value.Value.TheVariants as value
use Rattle.smv_value.specs.Results.{alike, amount, bits_from, constant_word, number_of_word, divided, extended, inverted, is_int, is_true, is_value, is_width, is_word, joined, logic_bits, logic_truth, logical, low_bits, moved, natural, of_integer, of_integers, of_number, of_numbers, one, order_truth, ordered, resized, same, selected, shifted, shifted_by, size, sum_of, three, to_boolean, to_word, two, value_of, with_sign, word, word_of}
use Rattle.value_types.proofs.Elements.{and_left, and_right, both_true}

some_same : {A : Type 0} (x y : A) → Some x ≡ Some y → x ≡ y
some_same x y e = cc

tested : {A : Type 0} (c : Bool) (o : Option A) (z : A) → cond c o None ≡ Some z → (c ≡ true) × (o ≡ Some z)
tested true o z h = (refl, h)
tested false o z h = absurd cc

-- the value that is given
is : (x z : Value) → Some x ≡ Some z → is_value x ≡ true → is_value z ≡ true
is x z e h = sym (ap is_value (some_same x z e)) ∙ h

word_is : (w n : ℕ) → is_width w ≡ true → n < 2 ^ w → is_word w n ≡ true
word_is w n h l = both_true (is_width w) (nat_lt n (2 ^ w)) h (lt-ltb n (2 ^ w) l)

width_is : (w n : ℕ) → is_word w n ≡ true → is_width w ≡ true
width_is w n h = and_left (is_width w) (nat_lt n (2 ^ w)) h

bits_are : (w n : ℕ) → is_word w n ≡ true → n < 2 ^ w
bits_are w n h = ltb-true n (2 ^ w) (and_right (is_width w) (nat_lt n (2 ^ w)) h)

low_lt : (w : ℕ) (z : ℤ) → low_bits w z < 2 ^ w
low_lt w (pos a) = mod-lt a (pow_pos w)
low_lt w (negsuc a) = omega (arith, pow_pos w)

low_word : (w : ℕ) (z : ℤ) → is_width w ≡ true → is_word w (low_bits w z) ≡ true
low_word w z h = word_is w (low_bits w z) h (low_lt w z)

same_width : (s t : Bool) (w u : ℕ) → alike s w t u ≡ true → u ≡ w
same_width s t w u h = sym (eqb-true w u (and_right (beq s t) (w == u) h))

integer_stays : (x : ℤ) (z : Value) → cond (is_int x) (Some (value.Int x)) None ≡ Some z → is_value z ≡ true
integer_stays x z e = let t = tested (is_int x) (Some (value.Int x)) z e in is (value.Int x) z t.1 t.0

word_stays : (s : Bool) (w : ℕ) (x : ℤ) (z : Value) → word_of s w x ≡ Some z → is_value z ≡ true
word_stays s w x z e = let t = tested (is_width w) (Some (word s w x)) z e in is (word s w x) z t.1 (low_word w x t.0)

ones_lt : (w : ℕ) → 2 ^ w - 1 < 2 ^ w
ones_lt w = omega (arith, pow_pos w)

logic_lt : (o : Logic) (w a b : ℕ) → a < 2 ^ w → b < 2 ^ w → logic_bits (2 ^ w - 1) o a b < 2 ^ w
logic_lt logic.And w a b h k = omega (arith, and_le_l a b)
logic_lt logic.Or w a b h k = or_lt w a b h k
logic_lt logic.Xor w a b h k = xor_lt w a b h k
logic_lt logic.Xnor w a b h k = xor_lt w (2 ^ w - 1) (bit_xor a b) (ones_lt w) (xor_lt w a b h k)
logic_lt logic.Implies w a b h k = or_lt w (bit_xor (2 ^ w - 1) a) b (xor_lt w (2 ^ w - 1) a (ones_lt w) h) k
logic_lt logic.Iff w a b h k = xor_lt w (2 ^ w - 1) (bit_xor a b) (ones_lt w) (xor_lt w a b h k)

inverted_stays : (x z : Value) → is_value x ≡ true → inverted x ≡ Some z → is_value z ≡ true
inverted_stays (value.Bool a) z i e = is (value.Bool (not a)) z e refl
inverted_stays (value.Int a) z i e = absurd cc
inverted_stays (value.Sym a) z i e = absurd cc
inverted_stays (value.Word s w a) z i e =
    is (value.Word s w (bit_xor (2 ^ w - 1) a)) z e (word_is w (bit_xor (2 ^ w - 1) a) (width_is w a i) (xor_lt w (2 ^ w - 1) a (ones_lt w) (bits_are w a i)))

logical_stays : (o : Logic) (x y z : Value) → is_value x ≡ true → is_value y ≡ true → logical o x y ≡ Some z → is_value z ≡ true
logical_stays o (value.Bool a) (value.Bool b) z i j e = is (value.Bool (logic_truth o a b)) z e refl
logical_stays o (value.Bool a) (value.Int b) z i j e = absurd cc
logical_stays o (value.Bool a) (value.Sym b) z i j e = absurd cc
logical_stays o (value.Bool a) (value.Word t u b) z i j e = absurd cc
logical_stays o (value.Int a) y z i j e = absurd cc
logical_stays o (value.Sym a) y z i j e = absurd cc
logical_stays o (value.Word s w a) (value.Bool b) z i j e = absurd cc
logical_stays o (value.Word s w a) (value.Int b) z i j e = absurd cc
logical_stays o (value.Word s w a) (value.Sym b) z i j e = absurd cc
logical_stays o (value.Word s w a) (value.Word t u b) z i j e =
    let r = tested (alike s w t u) (Some (value.Word s w (logic_bits (2 ^ w - 1) o a b))) z e in
    let below : b < 2 ^ w = (let P : ℕ → Type 0 = λ n. b < 2 ^ n in subst P (same_width s t w u r.0) (bits_are u b j)) in
    is (value.Word s w (logic_bits (2 ^ w - 1) o a b)) z r.1 (word_is w (logic_bits (2 ^ w - 1) o a b) (width_is w a i) (logic_lt o w a b (bits_are w a i) below))

truth_stays : (b : Bool) (z : Value) → Some (value.Bool b) ≡ Some z → is_value z ≡ true
truth_stays b z e = is (value.Bool b) z e refl

ordered_stays : (o : Order) (x y z : Value) → is_value x ≡ true → is_value y ≡ true → ordered o x y ≡ Some z → is_value z ≡ true
ordered_stays o (value.Bool a) y z i j e = absurd cc
ordered_stays o (value.Int a) (value.Bool b) z i j e = absurd cc
ordered_stays o (value.Int a) (value.Int b) z i j e = truth_stays (order_truth o a b) z e
ordered_stays o (value.Int a) (value.Sym b) z i j e = absurd cc
ordered_stays o (value.Int a) (value.Word t u b) z i j e = absurd cc
ordered_stays o (value.Sym a) y z i j e = absurd cc
ordered_stays o (value.Word s w a) (value.Bool b) z i j e = absurd cc
ordered_stays o (value.Word s w a) (value.Int b) z i j e = absurd cc
ordered_stays o (value.Word s w a) (value.Sym b) z i j e = absurd cc
ordered_stays o (value.Word s w a) (value.Word t u b) z i j e =
    let r = tested (alike s w t u) (Some (value.Bool (order_truth o (number_of_word s w a) (number_of_word s w b)))) z e in
    truth_stays (order_truth o (number_of_word s w a) (number_of_word s w b)) z r.1

number_stays : (f : ℤ → ℤ) (x z : Value) → is_value x ≡ true → of_number f x ≡ Some z → is_value z ≡ true
number_stays f (value.Bool a) z i e = absurd cc
number_stays f (value.Int a) z i e = integer_stays (f a) z e
number_stays f (value.Sym a) z i e = absurd cc
number_stays f (value.Word s w a) z i e = is (word s w (f (number_of_word s w a))) z e (low_word w (f (number_of_word s w a)) (width_is w a i))

numbers_stay : (f : ℤ → ℤ → ℤ) (x y z : Value) → is_value x ≡ true → is_value y ≡ true → of_numbers f x y ≡ Some z → is_value z ≡ true
numbers_stay f (value.Bool a) y z i j e = absurd cc
numbers_stay f (value.Int a) (value.Bool b) z i j e = absurd cc
numbers_stay f (value.Int a) (value.Int b) z i j e = integer_stays (f a b) z e
numbers_stay f (value.Int a) (value.Sym b) z i j e = absurd cc
numbers_stay f (value.Int a) (value.Word t u b) z i j e = absurd cc
numbers_stay f (value.Sym a) y z i j e = absurd cc
numbers_stay f (value.Word s w a) (value.Bool b) z i j e = absurd cc
numbers_stay f (value.Word s w a) (value.Int b) z i j e = absurd cc
numbers_stay f (value.Word s w a) (value.Sym b) z i j e = absurd cc
numbers_stay f (value.Word s w a) (value.Word t u b) z i j e =
    let r = tested (alike s w t u) (Some (word s w (f (number_of_word s w a) (number_of_word s w b)))) z e in
    is (word s w (f (number_of_word s w a) (number_of_word s w b))) z r.1 (low_word w (f (number_of_word s w a) (number_of_word s w b)) (width_is w a i))

one_integer_stays : (f : ℤ → ℤ) (x z : Value) → is_value x ≡ true → of_integer f x ≡ Some z → is_value z ≡ true
one_integer_stays f (value.Bool a) z i e = absurd cc
one_integer_stays f (value.Int a) z i e = integer_stays (f a) z e
one_integer_stays f (value.Sym a) z i e = absurd cc
one_integer_stays f (value.Word s w a) z i e = absurd cc

integers_stay : (f : ℤ → ℤ → ℤ) (x y z : Value) → is_value x ≡ true → is_value y ≡ true → of_integers f x y ≡ Some z → is_value z ≡ true
integers_stay f (value.Bool a) y z i j e = absurd cc
integers_stay f (value.Int a) (value.Bool b) z i j e = absurd cc
integers_stay f (value.Int a) (value.Int b) z i j e = integer_stays (f a b) z e
integers_stay f (value.Int a) (value.Sym b) z i j e = absurd cc
integers_stay f (value.Int a) (value.Word t u b) z i j e = absurd cc
integers_stay f (value.Sym a) y z i j e = absurd cc
integers_stay f (value.Word s w a) y z i j e = absurd cc

moved_stays : (o : Shift) (s : Bool) (w a : ℕ) (n : Option ℤ) (z : Value) → is_width w ≡ true → shifted_by o s w a n ≡ Some z → is_value z ≡ true
moved_stays o s w a None z i e = absurd cc
moved_stays o s w a (Some n) z i e = is (word s w (moved o (number_of_word s w a) (natural n))) z e (low_word w (moved o (number_of_word s w a) (natural n)) i)

shifted_stays : (o : Shift) (x y z : Value) → is_value x ≡ true → is_value y ≡ true → shifted o x y ≡ Some z → is_value z ≡ true
shifted_stays o (value.Bool a) y z i j e = absurd cc
shifted_stays o (value.Int a) y z i j e = absurd cc
shifted_stays o (value.Sym a) y z i j e = absurd cc
shifted_stays o (value.Word s w a) y z i j e = moved_stays o s w a (amount y) z (width_is w a i) e

joined_stays : (x y z : Value) → is_value x ≡ true → is_value y ≡ true → joined x y ≡ Some z → is_value z ≡ true
joined_stays (value.Bool a) y z i j e = absurd cc
joined_stays (value.Int a) y z i j e = absurd cc
joined_stays (value.Sym a) y z i j e = absurd cc
joined_stays (value.Word s w a) (value.Bool b) z i j e = absurd cc
joined_stays (value.Word s w a) (value.Int b) z i j e = absurd cc
joined_stays (value.Word s w a) (value.Sym b) z i j e = absurd cc
joined_stays (value.Word s w a) (value.Word t u b) z i j e = word_stays false (w + u) (pos (a * 2 ^ u + b)) z e

selected_stays : (x y w z : Value) → is_value x ≡ true → selected x y w ≡ Some z → is_value z ≡ true
selected_stays (value.Bool a) h l z i e = absurd cc
selected_stays (value.Int a) h l z i e = absurd cc
selected_stays (value.Sym a) h l z i e = absurd cc
selected_stays (value.Word s w a) (value.Bool h) l z i e = absurd cc
selected_stays (value.Word s w a) (value.Int h) (value.Bool l) z i e = absurd cc
selected_stays (value.Word s w a) (value.Int h) (value.Int l) z i e =
    let r = tested (int_le (pos 0) l && int_le l h && int_lt h (pos w)) (word_of false (natural h - natural l + 1) (pos (a / 2 ^ natural l))) z e in
    word_stays false (natural h - natural l + 1) (pos (a / 2 ^ natural l)) z r.1
selected_stays (value.Word s w a) (value.Int h) (value.Sym l) z i e = absurd cc
selected_stays (value.Word s w a) (value.Int h) (value.Word t u l) z i e = absurd cc
selected_stays (value.Word s w a) (value.Sym h) l z i e = absurd cc
selected_stays (value.Word s w a) (value.Word t u h) l z i e = absurd cc

extended_stays : (x y z : Value) → is_value x ≡ true → is_value y ≡ true → extended x y ≡ Some z → is_value z ≡ true
extended_stays (value.Bool a) y z i j e = absurd cc
extended_stays (value.Int a) y z i j e = absurd cc
extended_stays (value.Sym a) y z i j e = absurd cc
extended_stays (value.Word s w a) (value.Bool n) z i j e = absurd cc
extended_stays (value.Word s w a) (value.Int n) z i j e = word_stays s (w + natural n) (number_of_word s w a) z e
extended_stays (value.Word s w a) (value.Sym n) z i j e = absurd cc
extended_stays (value.Word s w a) (value.Word t u n) z i j e = absurd cc

resized_stays : (x y z : Value) → is_value x ≡ true → is_value y ≡ true → resized x y ≡ Some z → is_value z ≡ true
resized_stays (value.Bool a) y z i j e = absurd cc
resized_stays (value.Int a) y z i j e = absurd cc
resized_stays (value.Sym a) y z i j e = absurd cc
resized_stays (value.Word s w a) (value.Bool n) z i j e = absurd cc
resized_stays (value.Word s w a) (value.Int n) z i j e = word_stays s (natural n) (number_of_word s w a) z e
resized_stays (value.Word s w a) (value.Sym n) z i j e = absurd cc
resized_stays (value.Word s w a) (value.Word t u n) z i j e = absurd cc

sign_stays : (t : Bool) (x z : Value) → is_value x ≡ true → with_sign t x ≡ Some z → is_value z ≡ true
sign_stays t (value.Bool a) z i e = absurd cc
sign_stays t (value.Int a) z i e = absurd cc
sign_stays t (value.Sym a) z i e = absurd cc
sign_stays t (value.Word s w a) z i e = is (value.Word t w a) z e i

small_width : (w : ℕ) → is_width w ≡ true → is_int (pos w) ≡ true
small_width w h = grind (arith, ints)

size_stays : (x z : Value) → is_value x ≡ true → size x ≡ Some z → is_value z ≡ true
size_stays (value.Bool a) z i e = absurd cc
size_stays (value.Int a) z i e = absurd cc
size_stays (value.Sym a) z i e = absurd cc
size_stays (value.Word s w a) z i e = is (value.Int (pos w)) z e (small_width w (width_is w a i))

bit_stays : (b : Bool) → is_value (value.Word false 1 (cond b 1 0)) ≡ true
bit_stays true = refl
bit_stays false = refl

to_word_stays : (x z : Value) → is_value x ≡ true → to_word x ≡ Some z → is_value z ≡ true
to_word_stays (value.Bool a) z i e = is (value.Word false 1 (cond a 1 0)) z e (bit_stays a)
to_word_stays (value.Int a) z i e = absurd cc
to_word_stays (value.Sym a) z i e = absurd cc
to_word_stays (value.Word s w a) z i e = absurd cc

to_boolean_stays : (x z : Value) → is_value x ≡ true → to_boolean x ≡ Some z → is_value z ≡ true
to_boolean_stays (value.Bool a) z i e = absurd cc
to_boolean_stays (value.Int a) z i e = absurd cc
to_boolean_stays (value.Sym a) z i e = absurd cc
to_boolean_stays (value.Word s w a) z i e = truth_stays (a == 1) z e

constant_stays : (t : Bool) (x y z : Value) → is_value x ≡ true → is_value y ≡ true → constant_word t x y ≡ Some z → is_value z ≡ true
constant_stays t (value.Bool a) y z i j e = absurd cc
constant_stays t (value.Int a) (value.Bool n) z i j e = absurd cc
constant_stays t (value.Int a) (value.Int n) z i j e = word_stays t (natural n) a z e
constant_stays t (value.Int a) (value.Sym n) z i j e = absurd cc
constant_stays t (value.Int a) (value.Word s w n) z i j e = absurd cc
constant_stays t (value.Sym a) y z i j e = absurd cc
constant_stays t (value.Word s w a) y z i j e = absurd cc

-- by the number of operands

one_stays : (f : Value → Option Value) → ((x z : Value) → is_value x ≡ true → f x ≡ Some z → is_value z ≡ true) → (xs : List Value) (z : Value) → list_all is_value xs ≡ true → one f xs ≡ Some z → is_value z ≡ true
one_stays f h [] z i e = absurd cc
one_stays f h (x ∷ []) z i e = h x z (and_left (is_value x) (list_all is_value []) i) e
one_stays f h (x ∷ y ∷ xs) z i e = absurd cc

two_stays : (f : Value → Value → Option Value) → ((x y z : Value) → is_value x ≡ true → is_value y ≡ true → f x y ≡ Some z → is_value z ≡ true) → (xs : List Value) (z : Value) → list_all is_value xs ≡ true →
    two f xs ≡ Some z → is_value z ≡ true
two_stays f h [] z i e = absurd cc
two_stays f h (x ∷ []) z i e = absurd cc
two_stays f h (x ∷ y ∷ []) z i e =
    let rest = and_right (is_value x) (list_all is_value (y ∷ [])) i in
    h x y z (and_left (is_value x) (list_all is_value (y ∷ [])) i) (and_left (is_value y) (list_all is_value []) rest) e
two_stays f h (x ∷ y ∷ w ∷ xs) z i e = absurd cc

three_stays : (f : Value → Value → Value → Option Value) → ((x y w z : Value) → is_value x ≡ true → f x y w ≡ Some z → is_value z ≡ true) → (xs : List Value) (z : Value) → list_all is_value xs ≡ true →
    three f xs ≡ Some z → is_value z ≡ true
three_stays f h [] z i e = absurd cc
three_stays f h (x ∷ []) z i e = absurd cc
three_stays f h (x ∷ y ∷ []) z i e = absurd cc
three_stays f h (x ∷ y ∷ w ∷ []) z i e = h x y w z (and_left (is_value x) (list_all is_value (y ∷ w ∷ [])) i) e
three_stays f h (x ∷ y ∷ w ∷ u ∷ xs) z i e = absurd cc

pub value_stays : (o : Operator) (xs : List Value) (z : Value) → list_all is_value xs ≡ true → value_of o xs ≡ Some z → is_value z ≡ true
value_stays operator.Not = one_stays inverted inverted_stays
value_stays (operator.Logic o) = two_stays (logical o) (logical_stays o)
value_stays operator.Equal = two_stays (λ a b. Some (value.Bool (same a b))) (λ x y z i j e. truth_stays (same x y) z e)
value_stays operator.NotEqual = two_stays (λ a b. Some (value.Bool (not (same a b)))) (λ x y z i j e. truth_stays (not (same x y)) z e)
value_stays (operator.Order o) = two_stays (ordered o) (ordered_stays o)
value_stays operator.Negate = one_stays (of_number neg_ℤ) (number_stays neg_ℤ)
value_stays (operator.Arithmetic o) = two_stays (of_numbers (sum_of o)) (numbers_stay (sum_of o))
value_stays (operator.Division o) = two_stays (of_numbers (divided o)) (numbers_stay (divided o))
value_stays operator.Absolute = one_stays (of_integer (λ a. pos (unsigned_abs a))) (one_integer_stays (λ a. pos (unsigned_abs a)))
value_stays operator.Maximum = two_stays (of_integers int_max) (integers_stay int_max)
value_stays operator.Minimum = two_stays (of_integers int_min) (integers_stay int_min)
value_stays operator.Count = λ xs z i e. integer_stays (pos (count_by is_true xs)) z e
value_stays (operator.Shift o) = two_stays (shifted o) (shifted_stays o)
value_stays operator.Join = two_stays joined joined_stays
value_stays operator.Select = three_stays selected selected_stays
value_stays operator.Subscript = one_stays (of_integer (λ a. a)) (one_integer_stays (λ a. a))
value_stays operator.ToWord = one_stays to_word to_word_stays
value_stays operator.ToBoolean = one_stays to_boolean to_boolean_stays
value_stays operator.Signed = one_stays (with_sign true) (sign_stays true)
value_stays operator.Unsigned = one_stays (with_sign false) (sign_stays false)
value_stays operator.Extend = two_stays extended extended_stays
value_stays operator.Resize = two_stays resized resized_stays
value_stays operator.Size = one_stays size size_stays
value_stays operator.UnsignedConstant = two_stays (constant_word false) (constant_stays false)
value_stays operator.SignedConstant = two_stays (constant_word true) (constant_stays true)
value_stays other = λ xs z i e. absurd cc
