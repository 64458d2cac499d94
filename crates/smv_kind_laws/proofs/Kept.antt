-- What operators give of values is a value.
use Rattle.std.proofs.Common.{◌≡◌, ℕ, ◌+◌, ◌-◌, ◌*◌, ◌^◌, ◌<◌, IsTrue, Bool, true, false, not, ◌&&◌, cond, Option, None, Some, List, [], ◌∷◌, ℤ, pos, negsuc, refl, arith, rules, unsigned_abs, subst, neg_ℤ, Ok, Err}
use Rattle.std.specs.Prelude.{◌/◌, ◌==◌, bit_xor, count_by, int_le, int_lt}
use Rattle.std.specs.List.{list_all}
use Rattle.std.specs.Int.{int_max, int_min}
use Rattle.std.proofs.lemmas.Nat.{and_le_l, mod_below, or_lt, pow_pos, xor_lt}
use Rattle.smv_value.specs.declared.operator.Logic.{Logic}
use Rattle.smv_value.specs.declared.operator.Logic.TheVariants as logic
use Rattle.smv_value.specs.declared.operator.Order.{Order}
use Rattle.smv_value.specs.declared.operator.Shift.{Shift}
use Rattle.smv_value.specs.declared.operator.Operator.{Operator}
use Rattle.smv_value.specs.declared.operator.Operator.TheVariants as operator
use Rattle.smv_value.specs.declared.value.FaultRule.{FaultRule}
use Rattle.smv_value.specs.declared.value.Value.{Value}
use Rattle.smv_value.specs.declared.value.Value.TheVariants as value
use Rattle.smv_value.specs.Results.{alike, amount, constant_word, number_of_word, divided, extended, fault_of, integer, inverted, is_int, is_true, is_value, is_width, is_word, joined, logic_bits, logical, low_bits, moved, natural, of_integer, of_integers, of_number, of_numbers, one, order_truth, ordered, resized, result_of, same, selected, shifted, shifted_by, size, sum_of, three, to_boolean, to_word, two, unless, value_of, with_sign, word, word_of}
use Rattle.smv_value.proofs.Bits.{word_within}

-- nothing, or a value
abbrev pub IsKept : Option Value → Type 0
IsKept None = Unit {0}
IsKept (Some v) = IsTrue (is_value v)

kept_if : (b : Bool) (v : Value) → (b ≡ true → IsTrue (is_value v)) → IsKept (cond b (Some v) None)
kept_if true v h = h refl
kept_if false v h = tt

true_if : (b : Bool) → b ≡ true → IsTrue b
true_if b h = search rules

pub integer_kept : (z : ℤ) → IsKept (integer z)
integer_kept z = kept_if (is_int z) (value.Int z) (λ h. true_if (is_int z) h)

low_bits_below : (w : ℕ) (z : ℤ) → low_bits w z < 2 ^ w
low_bits_below w (pos a) = mod_below a (2 ^ w) (pow_pos w)
low_bits_below w (negsuc a) = omega (arith, pow_pos w)

is_word_from : (w bits : ℕ) → IsTrue (is_width w) → bits < 2 ^ w → IsTrue (is_word w bits)
is_word_from w bits h l = grind arith

pub word_kept : (s : Bool) (w : ℕ) (z : ℤ) → IsTrue (is_width w) → IsTrue (is_value (word s w z))
word_kept s w z h = is_word_from w (low_bits w z) h (low_bits_below w z)

pub word_of_kept : (s : Bool) (w : ℕ) (z : ℤ) → IsKept (word_of s w z)
word_of_kept s w z = kept_if (is_width w) (word s w z) (λ h. word_kept s w z (true_if (is_width w) h))

all_below : (w : ℕ) → 2 ^ w - 1 < 2 ^ w
all_below w = omega (arith, pow_pos w)

logic_below : (w : ℕ) (o : Logic) (a b : ℕ) → a < 2 ^ w → b < 2 ^ w → logic_bits (2 ^ w - 1) o a b < 2 ^ w
logic_below w logic.And a b h l = omega (arith, and_le_l a b)
logic_below w logic.Or a b h l = or_lt w a b h l
logic_below w logic.Xor a b h l = xor_lt w a b h l
logic_below w logic.Xnor a b h l = xor_lt w (2 ^ w - 1) (bit_xor a b) (all_below w) (xor_lt w a b h l)
logic_below w logic.Implies a b h l = or_lt w (bit_xor (2 ^ w - 1) a) b (xor_lt w (2 ^ w - 1) a (all_below w) h) l
logic_below w logic.Iff a b h l = xor_lt w (2 ^ w - 1) (bit_xor a b) (all_below w) (xor_lt w a b h l)

-- words of one type have one width
same_width : (s t : Bool) (w v : ℕ) → alike s w t v ≡ true → w ≡ v
same_width s t w v h = grind arith

pub logical_kept : (o : Logic) (a b : Value) → IsTrue (is_value a) → IsTrue (is_value b) → IsKept (logical o a b)
logical_kept o (value.Bool a) (value.Bool b) h l = search rules
logical_kept o (value.Bool a) (value.Int b) h l = tt
logical_kept o (value.Bool a) (value.Sym b) h l = tt
logical_kept o (value.Bool a) (value.Word t v b) h l = tt
logical_kept o (value.Int a) b h l = tt
logical_kept o (value.Sym a) b h l = tt
logical_kept o (value.Word s w a) (value.Bool b) h l = tt
logical_kept o (value.Word s w a) (value.Int b) h l = tt
logical_kept o (value.Word s w a) (value.Sym b) h l = tt
logical_kept o (value.Word s w a) (value.Word t v b) h l =
    kept_if (alike s w t v) (value.Word s w (logic_bits (2 ^ w - 1) o a b))
    (λ e. let b_below : b < 2 ^ w = subst_width w v b (same_width s t w v e) (word_within v b l).1 in
    is_word_from w (logic_bits (2 ^ w - 1) o a b) (word_within w a h).0 (logic_below w o a b (word_within w a h).1 b_below))
  where
    subst_width : (w v b : ℕ) → w ≡ v → b < 2 ^ v → b < 2 ^ w
    subst_width w v b e h = rw e h

pub of_numbers_kept : (f : ℤ → ℤ → ℤ) (a b : Value) → IsTrue (is_value a) → IsTrue (is_value b) → IsKept (of_numbers f a b)
of_numbers_kept f (value.Bool a) b h l = tt
of_numbers_kept f (value.Int a) (value.Bool b) h l = tt
of_numbers_kept f (value.Int a) (value.Int b) h l = integer_kept (f a b)
of_numbers_kept f (value.Int a) (value.Sym b) h l = tt
of_numbers_kept f (value.Int a) (value.Word t v b) h l = tt
of_numbers_kept f (value.Sym a) b h l = tt
of_numbers_kept f (value.Word s w a) (value.Bool b) h l = tt
of_numbers_kept f (value.Word s w a) (value.Int b) h l = tt
of_numbers_kept f (value.Word s w a) (value.Sym b) h l = tt
of_numbers_kept f (value.Word s w a) (value.Word t v b) h l =
    kept_if (alike s w t v) _ (λ e. word_kept s w _ (word_within w a h).0)

-- the other operators

pub inverted_kept : (a : Value) → IsTrue (is_value a) → IsKept (inverted a)
inverted_kept (value.Bool a) h = search rules
inverted_kept (value.Int a) h = tt
inverted_kept (value.Sym a) h = tt
inverted_kept (value.Word s w a) h =
    is_word_from w (bit_xor (2 ^ w - 1) a) (word_within w a h).0 (xor_lt w (2 ^ w - 1) a (all_below w) (word_within w a h).1)

truth_kept : (b : Bool) → IsKept (Some (value.Bool b))
truth_kept b = search rules

pub ordered_kept : (o : Order) (a b : Value) → IsTrue (is_value a) → IsTrue (is_value b) → IsKept (ordered o a b)
ordered_kept o (value.Bool a) b h l = tt
ordered_kept o (value.Int a) (value.Bool b) h l = tt
ordered_kept o (value.Int a) (value.Int b) h l = truth_kept (order_truth o a b)
ordered_kept o (value.Int a) (value.Sym b) h l = tt
ordered_kept o (value.Int a) (value.Word t v b) h l = tt
ordered_kept o (value.Sym a) b h l = tt
ordered_kept o (value.Word s w a) (value.Bool b) h l = tt
ordered_kept o (value.Word s w a) (value.Int b) h l = tt
ordered_kept o (value.Word s w a) (value.Sym b) h l = tt
ordered_kept o (value.Word s w a) (value.Word t v b) h l = kept_if (alike s w t v) _ (λ e. truth_kept (order_truth o (number_of_word s w a) (number_of_word s w b)))

of_number_kept : (f : ℤ → ℤ) (a : Value) → IsTrue (is_value a) → IsKept (of_number f a)
of_number_kept f (value.Bool a) h = tt
of_number_kept f (value.Int a) h = integer_kept (f a)
of_number_kept f (value.Sym a) h = tt
of_number_kept f (value.Word s w a) h = word_kept s w (f (number_of_word s w a)) (word_within w a h).0

of_integer_kept : (f : ℤ → ℤ) (a : Value) → IsTrue (is_value a) → IsKept (of_integer f a)
of_integer_kept f (value.Bool a) h = tt
of_integer_kept f (value.Int a) h = integer_kept (f a)
of_integer_kept f (value.Sym a) h = tt
of_integer_kept f (value.Word s w a) h = tt

of_integers_kept : (f : ℤ → ℤ → ℤ) (a b : Value) → IsTrue (is_value a) → IsTrue (is_value b) → IsKept (of_integers f a b)
of_integers_kept f (value.Bool a) b h l = tt
of_integers_kept f (value.Int a) (value.Bool b) h l = tt
of_integers_kept f (value.Int a) (value.Int b) h l = integer_kept (f a b)
of_integers_kept f (value.Int a) (value.Sym b) h l = tt
of_integers_kept f (value.Int a) (value.Word t v b) h l = tt
of_integers_kept f (value.Sym a) b h l = tt
of_integers_kept f (value.Word s w a) b h l = tt

shifted_by_kept : (o : Shift) (s : Bool) (w a : ℕ) (n : Option ℤ) → IsTrue (is_width w) → IsKept (shifted_by o s w a n)
shifted_by_kept o s w a None h = tt
shifted_by_kept o s w a (Some n) h = word_kept s w (moved o (number_of_word s w a) (natural n)) h

shifted_kept : (o : Shift) (a b : Value) → IsTrue (is_value a) → IsTrue (is_value b) → IsKept (shifted o a b)
shifted_kept o (value.Bool a) b h l = tt
shifted_kept o (value.Int a) b h l = tt
shifted_kept o (value.Sym a) b h l = tt
shifted_kept o (value.Word s w a) b h l = shifted_by_kept o s w a (amount b) (word_within w a h).0

joined_kept : (a b : Value) → IsTrue (is_value a) → IsTrue (is_value b) → IsKept (joined a b)
joined_kept (value.Bool a) b h l = tt
joined_kept (value.Int a) b h l = tt
joined_kept (value.Sym a) b h l = tt
joined_kept (value.Word s w a) (value.Bool b) h l = tt
joined_kept (value.Word s w a) (value.Int b) h l = tt
joined_kept (value.Word s w a) (value.Sym b) h l = tt
joined_kept (value.Word s w a) (value.Word t v b) h l = word_of_kept false (w + v) (pos (a * 2 ^ v + b))

bits_kept_if : (b : Bool) (w : ℕ) (z : ℤ) → IsKept (cond b (word_of false w z) None)
bits_kept_if true w z = word_of_kept false w z
bits_kept_if false w z = tt

selected_kept : (a b c : Value) → IsTrue (is_value a) → IsTrue (is_value b) → IsTrue (is_value c) → IsKept (selected a b c)
selected_kept (value.Bool a) b c h k l = tt
selected_kept (value.Int a) b c h k l = tt
selected_kept (value.Sym a) b c h k l = tt
selected_kept (value.Word s w a) (value.Bool b) c h k l = tt
selected_kept (value.Word s w a) (value.Sym b) c h k l = tt
selected_kept (value.Word s w a) (value.Word t v b) c h k l = tt
selected_kept (value.Word s w a) (value.Int b) (value.Bool c) h k l = tt
selected_kept (value.Word s w a) (value.Int b) (value.Int c) h k l =
    bits_kept_if (int_le (pos 0) c && int_le c b && int_lt b (pos w)) (natural b - natural c + 1) (pos (a / 2 ^ natural c))
selected_kept (value.Word s w a) (value.Int b) (value.Sym c) h k l = tt
selected_kept (value.Word s w a) (value.Int b) (value.Word t v c) h k l = tt

extended_kept : (a b : Value) → IsTrue (is_value a) → IsTrue (is_value b) → IsKept (extended a b)
extended_kept (value.Bool a) b h l = tt
extended_kept (value.Int a) b h l = tt
extended_kept (value.Sym a) b h l = tt
extended_kept (value.Word s w a) (value.Bool b) h l = tt
extended_kept (value.Word s w a) (value.Int b) h l = word_of_kept s (w + natural b) (number_of_word s w a)
extended_kept (value.Word s w a) (value.Sym b) h l = tt
extended_kept (value.Word s w a) (value.Word t v b) h l = tt

resized_kept : (a b : Value) → IsTrue (is_value a) → IsTrue (is_value b) → IsKept (resized a b)
resized_kept (value.Bool a) b h l = tt
resized_kept (value.Int a) b h l = tt
resized_kept (value.Sym a) b h l = tt
resized_kept (value.Word s w a) (value.Bool b) h l = tt
resized_kept (value.Word s w a) (value.Int b) h l = word_of_kept s (natural b) (number_of_word s w a)
resized_kept (value.Word s w a) (value.Sym b) h l = tt
resized_kept (value.Word s w a) (value.Word t v b) h l = tt

constant_word_kept : (s : Bool) (a b : Value) → IsTrue (is_value a) → IsTrue (is_value b) → IsKept (constant_word s a b)
constant_word_kept s (value.Bool a) b h l = tt
constant_word_kept s (value.Int a) (value.Bool b) h l = tt
constant_word_kept s (value.Int a) (value.Int b) h l = word_of_kept s (natural b) a
constant_word_kept s (value.Int a) (value.Sym b) h l = tt
constant_word_kept s (value.Int a) (value.Word t v b) h l = tt
constant_word_kept s (value.Sym a) b h l = tt
constant_word_kept s (value.Word t w a) b h l = tt

with_sign_kept : (s : Bool) (a : Value) → IsTrue (is_value a) → IsKept (with_sign s a)
with_sign_kept s (value.Bool a) h = tt
with_sign_kept s (value.Int a) h = tt
with_sign_kept s (value.Sym a) h = tt
with_sign_kept s (value.Word t w a) h = h

width_fits : (w : ℕ) → IsTrue (is_width w) → IsTrue (is_int (pos w))
width_fits w h = grind arith

size_kept : (a : Value) → IsTrue (is_value a) → IsKept (size a)
size_kept (value.Bool a) h = tt
size_kept (value.Int a) h = tt
size_kept (value.Sym a) h = tt
size_kept (value.Word t w a) h = width_fits w (word_within w a h).0

to_word_kept : (a : Value) → IsTrue (is_value a) → IsKept (to_word a)
to_word_kept (value.Bool true) h = search rules
to_word_kept (value.Bool false) h = search rules
to_word_kept (value.Int a) h = tt
to_word_kept (value.Sym a) h = tt
to_word_kept (value.Word t w a) h = tt

to_boolean_kept : (a : Value) → IsTrue (is_value a) → IsKept (to_boolean a)
to_boolean_kept (value.Bool a) h = tt
to_boolean_kept (value.Int a) h = tt
to_boolean_kept (value.Sym a) h = tt
to_boolean_kept (value.Word t w a) h = truth_kept (a == 1)

-- lists of operands

both_true : (x y : Bool) → (x && y) ≡ true → IsTrue x × (y ≡ true)
both_true true y e = (search rules, e)
both_true false y e = absurd (let l : false ≡ true = e in cc)

one_kept : (f : Value → Option Value) → ((a : Value) → IsTrue (is_value a) → IsKept (f a)) → (vs : List Value) → list_all is_value vs ≡ true → IsKept (one f vs)
one_kept f h [] e = tt
one_kept f h (a ∷ []) e = h a (both_true (is_value a) true e).0
one_kept f h (a ∷ b ∷ rest) e = tt

two_kept : (f : Value → Value → Option Value) → ((a b : Value) → IsTrue (is_value a) → IsTrue (is_value b) → IsKept (f a b)) →
    (vs : List Value) → list_all is_value vs ≡ true → IsKept (two f vs)
two_kept f h [] e = tt
two_kept f h (a ∷ []) e = tt
two_kept f h (a ∷ b ∷ []) e =
    let rest = both_true (is_value a) (is_value b && true) e in
    h a b rest.0 (both_true (is_value b) true rest.1).0
two_kept f h (a ∷ b ∷ c ∷ rest) e = tt

three_kept : (f : Value → Value → Value → Option Value) →
    ((a b c : Value) → IsTrue (is_value a) → IsTrue (is_value b) → IsTrue (is_value c) → IsKept (f a b c)) →
    (vs : List Value) → list_all is_value vs ≡ true → IsKept (three f vs)
three_kept f h [] e = tt
three_kept f h (a ∷ []) e = tt
three_kept f h (a ∷ b ∷ []) e = tt
three_kept f h (a ∷ b ∷ c ∷ []) e =
    let rest = both_true (is_value a) (is_value b && (is_value c && true)) e in
    let last = both_true (is_value b) (is_value c && true) rest.1 in
    h a b c rest.0 last.0 (both_true (is_value c) true last.1).0
three_kept f h (a ∷ b ∷ c ∷ d ∷ rest) e = tt

pub value_kept : (o : Operator) (vs : List Value) → list_all is_value vs ≡ true → IsKept (value_of o vs)
value_kept operator.Not vs e = one_kept inverted inverted_kept vs e
value_kept (operator.Logic o) vs e = two_kept (logical o) (logical_kept o) vs e
value_kept operator.Equal vs e = two_kept (λ a b. Some (value.Bool (same a b))) (λ a b h l. truth_kept (same a b)) vs e
value_kept operator.NotEqual vs e = two_kept (λ a b. Some (value.Bool (not (same a b)))) (λ a b h l. truth_kept (not (same a b))) vs e
value_kept (operator.Order o) vs e = two_kept (ordered o) (ordered_kept o) vs e
value_kept operator.Negate vs e = one_kept (of_number neg_ℤ) (of_number_kept neg_ℤ) vs e
value_kept (operator.Arithmetic o) vs e = two_kept (of_numbers (sum_of o)) (of_numbers_kept (sum_of o)) vs e
value_kept (operator.Division o) vs e = two_kept (of_numbers (divided o)) (of_numbers_kept (divided o)) vs e
value_kept operator.Absolute vs e = one_kept (of_integer (λ a. pos (unsigned_abs a))) (of_integer_kept (λ a. pos (unsigned_abs a))) vs e
value_kept operator.Maximum vs e = two_kept (of_integers int_max) (of_integers_kept int_max) vs e
value_kept operator.Minimum vs e = two_kept (of_integers int_min) (of_integers_kept int_min) vs e
value_kept operator.Count vs e = integer_kept (pos (count_by is_true vs))
value_kept (operator.Shift o) vs e = two_kept (shifted o) (shifted_kept o) vs e
value_kept operator.Join vs e = two_kept joined joined_kept vs e
value_kept operator.Select vs e = three_kept selected selected_kept vs e
value_kept operator.Index vs e = tt
value_kept operator.WholeArray vs e = tt
value_kept operator.Subscript vs e = one_kept (of_integer (λ a. a)) (of_integer_kept (λ a. a)) vs e
value_kept operator.Members vs e = tt
value_kept operator.Union vs e = tt
value_kept operator.Range vs e = tt
value_kept operator.In vs e = tt
value_kept (operator.Choice r) vs e = tt
value_kept operator.ToWord vs e = one_kept to_word to_word_kept vs e
value_kept operator.ToBoolean vs e = one_kept to_boolean to_boolean_kept vs e
value_kept operator.Signed vs e = one_kept (with_sign true) (with_sign_kept true) vs e
value_kept operator.Unsigned vs e = one_kept (with_sign false) (with_sign_kept false) vs e
value_kept operator.Extend vs e = two_kept extended extended_kept vs e
value_kept operator.Resize vs e = two_kept resized resized_kept vs e
value_kept operator.Size vs e = one_kept size size_kept vs e
value_kept operator.UnsignedConstant vs e = two_kept (constant_word false) (constant_word_kept false) vs e
value_kept operator.SignedConstant vs e = two_kept (constant_word true) (constant_word_kept true) vs e
value_kept (operator.Temporal o) vs e = tt
value_kept (operator.Bounded o low high) vs e = tt
value_kept (operator.Window o) vs e = tt

from_result : (b : Bool) (f : Option FaultRule) (x : Option Value) (v : Value) → (b ≡ true → IsKept x) → cond b (unless f x) (Ok None) ≡ Ok (Some v) → IsTrue (is_value v)
from_result true None None v h e = absurd (let l : Ok None ≡ Ok (Some v) = e in cc)
from_result true None (Some w) v h e = let i : w ≡ v = cc in let P : Value → Type 0 = λ u. IsTrue (is_value u) in subst P i (h refl)
from_result true (Some f) x v h e = absurd (let l : Err f ≡ Ok (Some v) = e in cc)
from_result false f x v h e = absurd (let l : Ok None ≡ Ok (Some v) = e in cc)

-- what `apply` gives is a value
pub result_kept : (o : Operator) (vs : List Value) (v : Value) → result_of o vs ≡ Ok (Some v) → IsTrue (is_value v)
result_kept o vs v e = from_result (list_all is_value vs) (fault_of o vs) (value_of o vs) v (value_kept o vs) e
