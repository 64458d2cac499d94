-- What each operator gives of values, and where it faults (NuSMV 2.6 User Manual, 2.2.3, Basic Expressions).
use Rattle.std.specs.Prelude.{ℕ, ◌+◌, ◌-◌, ◌*◌, ◌/◌, ◌^◌, ◌==◌, Bool, true, false, not, ◌&&◌, ◌||◌, if◌then◌else◌, cond, nat_le, nat_lt, List, [], ◌∷◌, Option, None, Some, Result, Ok, Err, ℤ, pos, negsuc, ◌+ℤ◌, ◌-ℤ◌, ◌*ℤ◌, neg_ℤ, unsigned_abs, int_lt, int_le, int_div, int_rem, bit_and, bit_or, bit_xor, count_by}
use Rattle.std.specs.Bool.{beq}
use Rattle.std.specs.Int.{int_max, int_min, int_rem_euclid, int_shr}
use Rattle.std.specs.List.{list_all}
use Rattle.smv_value.specs.declared.operator.Logic.{Logic}
use Rattle.smv_value.specs.declared.operator.Logic.TheVariants as logic
use Rattle.smv_value.specs.declared.operator.Order.{Order}
use Rattle.smv_value.specs.declared.operator.Order.TheVariants as order
use Rattle.smv_value.specs.declared.operator.Arithmetic.{Arithmetic}
use Rattle.smv_value.specs.declared.operator.Arithmetic.TheVariants as sum
use Rattle.smv_value.specs.declared.operator.Division.{Division}
use Rattle.smv_value.specs.declared.operator.Division.TheVariants as division
use Rattle.smv_value.specs.declared.operator.Shift.{Shift}
use Rattle.smv_value.specs.declared.operator.Shift.TheVariants as shift
use Rattle.smv_value.specs.declared.operator.Operator.{Operator}
use Rattle.smv_value.specs.declared.operator.Operator.TheVariants as operator
use Rattle.smv_value.specs.declared.value.Value.{Value}
use Rattle.smv_value.specs.declared.value.Value.TheVariants as value
use Rattle.smv_value.specs.declared.value.FaultRule.{FaultRule}
use Rattle.smv_value.specs.declared.value.FaultRule.TheVariants as fault

-- What is a value: an integer of 32 bits, or a word of 1 to 128 bits.

abbrev pub is_int : ℤ → Bool
is_int z = int_le (negsuc 2147483647) z && int_le z (pos 2147483647)

abbrev pub is_width : ℕ → Bool
is_width w = nat_le 1 w && nat_le w 128

abbrev pub is_word : ℕ → ℕ → Bool
is_word w bits = is_width w && nat_lt bits (2 ^ w)

abbrev pub is_value : Value → Bool
is_value (value.Bool b) = true
is_value (value.Int z) = is_int z
is_value (value.Sym n) = true
is_value (value.Word s w bits) = is_word w bits

-- the integer, if it is a value
abbrev pub integer : ℤ → Option Value
integer z = if is_int z then Some (value.Int z) else None

-- words

-- what a word counts: its bits as a number, and 2 ^ width less where it is signed and its highest bit is 1
abbrev pub number_of_word : Bool → ℕ → ℕ → ℤ
number_of_word false width bits = pos bits
number_of_word true width bits = if nat_le (2 ^ width) (2 * bits) then neg_ℤ (pos (2 ^ width - bits)) else pos bits

-- the low bits of a number
abbrev pub low_bits : ℕ → ℤ → ℕ
low_bits width z = unsigned_abs (int_rem_euclid z (pos (2 ^ width)))

-- the word of this number, of which the low bits stay
abbrev pub word : Bool → ℕ → ℤ → Value
word signed width z = value.Word signed width (low_bits width z)

-- the same, if it is a value
abbrev pub word_of : Bool → ℕ → ℤ → Option Value
word_of signed width z = if is_width width then Some (word signed width z) else None

abbrev pub natural : ℤ → ℕ
natural (pos n) = n
natural (negsuc n) = 0

-- tables of one kind each

abbrev pub logic_truth : Logic → Bool → Bool → Bool
logic_truth logic.And a b = a && b
logic_truth logic.Or a b = a || b
logic_truth logic.Xor a b = not (beq a b)
logic_truth logic.Xnor a b = beq a b
logic_truth logic.Implies a b = not a || b
logic_truth logic.Iff a b = beq a b

-- bit by bit, where `all` has all bits
abbrev pub logic_bits : ℕ → Logic → ℕ → ℕ → ℕ
logic_bits all logic.And a b = bit_and a b
logic_bits all logic.Or a b = bit_or a b
logic_bits all logic.Xor a b = bit_xor a b
logic_bits all logic.Xnor a b = bit_xor all (bit_xor a b)
logic_bits all logic.Implies a b = bit_or (bit_xor all a) b
logic_bits all logic.Iff a b = bit_xor all (bit_xor a b)

abbrev pub order_truth : Order → ℤ → ℤ → Bool
order_truth order.Less a b = int_lt a b
order_truth order.AtMost a b = int_le a b
order_truth order.Greater a b = int_lt b a
order_truth order.AtLeast a b = int_le b a

abbrev pub sum_of : Arithmetic → ℤ → ℤ → ℤ
sum_of sum.Add a b = a +ℤ b
sum_of sum.Subtract a b = a -ℤ b
sum_of sum.Multiply a b = a *ℤ b

-- rounded toward zero; the remainder has the sign of a
abbrev pub divided : Division → ℤ → ℤ → ℤ
divided division.Quotient a b = int_div a b
divided division.Remainder a b = int_rem a b

-- by so many places; to the right it is rounded down, so the highest bit of a signed word stays
abbrev pub moved : Shift → ℤ → ℕ → ℤ
moved shift.Left z n = z *ℤ pos (2 ^ n)
moved shift.Right z n = int_shr z n

-- words of one type
abbrev pub alike : Bool → ℕ → Bool → ℕ → Bool
alike s w t v = beq s t && w == v

abbrev pub same : Value → Value → Bool
same (value.Bool a) (value.Bool b) = beq a b
same (value.Int a) (value.Int b) = int_le a b && int_le b a
same (value.Sym a) (value.Sym b) = a == b
same (value.Word s w a) (value.Word t v b) = alike s w t v && a == b
same a b = false

-- operators by the kinds of their operands

abbrev pub inverted : Value → Option Value
inverted (value.Bool a) = Some (value.Bool (not a))
inverted (value.Word s w a) = Some (value.Word s w (bit_xor (2 ^ w - 1) a))
inverted a = None

abbrev pub logical : Logic → Value → Value → Option Value
logical o (value.Bool a) (value.Bool b) = Some (value.Bool (logic_truth o a b))
logical o (value.Word s w a) (value.Word t v b) = if alike s w t v then Some (value.Word s w (logic_bits (2 ^ w - 1) o a b)) else None
logical o a b = None

abbrev pub ordered : Order → Value → Value → Option Value
ordered o (value.Int a) (value.Int b) = Some (value.Bool (order_truth o a b))
ordered o (value.Word s w a) (value.Word t v b) =
    if alike s w t v then Some (value.Bool (order_truth o (number_of_word s w a) (number_of_word s w b))) else None
ordered o a b = None

-- An operator on numbers: of integers it gives an integer, of words the low bits.

abbrev pub of_number : (ℤ → ℤ) → Value → Option Value
of_number f (value.Int a) = integer (f a)
of_number f (value.Word s w a) = Some (word s w (f (number_of_word s w a)))
of_number f a = None

abbrev pub of_numbers : (ℤ → ℤ → ℤ) → Value → Value → Option Value
of_numbers f (value.Int a) (value.Int b) = integer (f a b)
of_numbers f (value.Word s w a) (value.Word t v b) =
    if alike s w t v then Some (word s w (f (number_of_word s w a) (number_of_word s w b))) else None
of_numbers f a b = None

abbrev pub of_integer : (ℤ → ℤ) → Value → Option Value
of_integer f (value.Int a) = integer (f a)
of_integer f a = None

abbrev pub of_integers : (ℤ → ℤ → ℤ) → Value → Value → Option Value
of_integers f (value.Int a) (value.Int b) = integer (f a b)
of_integers f a b = None

-- how far to shift
abbrev pub amount : Value → Option ℤ
amount (value.Int n) = Some n
amount (value.Word false w b) = Some (pos b)
amount other = None

abbrev pub shifted_by : Shift → Bool → ℕ → ℕ → Option ℤ → Option Value
shifted_by o s w a None = None
shifted_by o s w a (Some n) = Some (word s w (moved o (number_of_word s w a) (natural n)))

abbrev pub shifted : Shift → Value → Value → Option Value
shifted o (value.Word s w a) b = shifted_by o s w a (amount b)
shifted o a b = None

abbrev pub joined : Value → Value → Option Value
joined (value.Word s w a) (value.Word t v b) = word_of false (w + v) (pos (a * 2 ^ v + b))
joined a b = None

-- bits h to l, both among them
abbrev pub bits_from : ℕ → ℕ → ℤ → ℤ → Option Value
bits_from w a h l =
    if int_le (pos 0) l && int_le l h && int_lt h (pos w)
    then word_of false (natural h - natural l + 1) (pos (a / 2 ^ natural l)) else None

abbrev pub selected : Value → Value → Value → Option Value
selected (value.Word s w a) (value.Int h) (value.Int l) = bits_from w a h l
selected a b c = None

abbrev pub extended : Value → Value → Option Value
extended (value.Word s w a) (value.Int n) = word_of s (w + natural n) (number_of_word s w a)
extended a b = None

abbrev pub resized : Value → Value → Option Value
resized (value.Word s w a) (value.Int n) = word_of s (natural n) (number_of_word s w a)
resized a b = None

abbrev pub with_sign : Bool → Value → Option Value
with_sign signed (value.Word s w a) = Some (value.Word signed w a)
with_sign signed other = None

abbrev pub size : Value → Option Value
size (value.Word s w a) = Some (value.Int (pos w))
size other = None

abbrev pub to_word : Value → Option Value
to_word (value.Bool b) = Some (value.Word false 1 (cond b 1 0))
to_word other = None

abbrev pub to_boolean : Value → Option Value
to_boolean (value.Word s w a) = Some (value.Bool (a == 1))
to_boolean other = None

abbrev pub constant_word : Bool → Value → Value → Option Value
constant_word signed (value.Int e) (value.Int n) = word_of signed (natural n) e
constant_word signed a b = None

abbrev pub is_true : Value → Bool
is_true (value.Bool b) = b
is_true other = false

-- how many operands

abbrev pub one : (Value → Option Value) → List Value → Option Value
one f (a ∷ []) = f a
one f other = None

abbrev pub two : (Value → Value → Option Value) → List Value → Option Value
two f (a ∷ b ∷ []) = f a b
two f other = None

abbrev pub three : (Value → Value → Value → Option Value) → List Value → Option Value
three f (a ∷ b ∷ c ∷ []) = f a b c
three f other = None

-- The table: what an operator gives of one value of each operand; nothing where the kinds do not fit, or where it gives
-- sets.
abbrev pub value_of : Operator → List Value → Option Value
value_of operator.Not = one inverted
value_of (operator.Logic o) = two (logical o)
value_of operator.Equal = two (λ a b. Some (value.Bool (same a b)))
value_of operator.NotEqual = two (λ a b. Some (value.Bool (not (same a b))))
value_of (operator.Order o) = two (ordered o)
value_of operator.Negate = one (of_number neg_ℤ)
value_of (operator.Arithmetic o) = two (of_numbers (sum_of o))
value_of (operator.Division o) = two (of_numbers (divided o))
value_of operator.Absolute = one (of_integer (λ a. pos (unsigned_abs a)))
value_of operator.Maximum = two (of_integers int_max)
value_of operator.Minimum = two (of_integers int_min)
value_of operator.Count = λ vs. integer (pos (count_by is_true vs))
value_of (operator.Shift o) = two (shifted o)
value_of operator.Join = two joined
value_of operator.Select = three selected
value_of operator.Subscript = one (of_integer (λ a. a))
value_of operator.ToWord = one to_word
value_of operator.ToBoolean = one to_boolean
value_of operator.Signed = one (with_sign true)
value_of operator.Unsigned = one (with_sign false)
value_of operator.Extend = two extended
value_of operator.Resize = two resized
value_of operator.Size = one size
value_of operator.UnsignedConstant = two (constant_word false)
value_of operator.SignedConstant = two (constant_word true)
value_of other = λ vs. None

-- faults

abbrev pub fault_if : Bool → FaultRule → Option FaultRule
fault_if true f = Some f
fault_if false f = None

abbrev pub is_zero : Value → Bool
is_zero (value.Int z) = int_le (pos 0) z && int_le z (pos 0)
is_zero (value.Word s w b) = b == 0
is_zero other = false

abbrev pub is_beyond : ℕ → Option ℤ → Bool
is_beyond w None = false
is_beyond w (Some n) = int_lt n (pos 0) || int_lt (pos w) n

abbrev pub is_too_far : Value → Value → Bool
is_too_far (value.Word s w a) b = is_beyond w (amount b)
is_too_far a b = false

abbrev pub second_fault : (Value → Value → Bool) → FaultRule → List Value → Option FaultRule
second_fault test f (a ∷ b ∷ []) = fault_if (test a b) f
second_fault test f other = None

abbrev pub fault_of : Operator → List Value → Option FaultRule
fault_of (operator.Division o) = second_fault (λ a b. is_zero b) fault.DivisorZero
fault_of (operator.Shift o) = second_fault is_too_far fault.ShiftTooFar
fault_of other = λ vs. None

-- What an operator gives: a fault, a value, or nothing, also where an operand is no value.
abbrev pub unless : Option FaultRule → Option Value → Result (Option Value) FaultRule
unless None v = Ok v
unless (Some f) v = Err f

abbrev pub result_of : Operator → List Value → Result (Option Value) FaultRule
result_of o vs = if list_all is_value vs then unless (fault_of o vs) (value_of o vs) else Ok None
