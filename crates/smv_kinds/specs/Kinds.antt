-- The kind that each operator gives of its operands' kinds, or the first rule that they break (NuSMV 2.6 User Manual,
-- 2.1 and 2.2).
use Rattle.std.specs.Prelude.{ℕ, ◌+◌, ◌-◌, ◌^◌, ◌==◌, nat_le, Bool, true, false, not, ◌&&◌, ◌||◌, if◌then◌else◌, List, [], ◌∷◌, length, Option, None, Some, is_some, Result, Ok, Err, ℤ, pos, neg_ℤ, int_le, int_lt}
use Rattle.std.specs.Int.{int_max, int_min}
use Rattle.std.specs.List.{list_all, fold}
use Rattle.smv_value.specs.declared.operator.Temporal.{Temporal}
use Rattle.smv_value.specs.declared.operator.Temporal.TheVariants as tense
use Rattle.smv_value.specs.declared.operator.Operator.{Operator}
use Rattle.smv_value.specs.declared.operator.Operator.TheVariants as operator
use Rattle.smv_value.specs.declared.value.Value.{Value}
use Rattle.smv_value.specs.declared.value.Value.TheVariants as value
use Rattle.smv_value.specs.Results.{alike, is_int, is_width, natural}
use Rattle.smv_kinds.specs.declared.kind.Interval.{Interval}
use Rattle.smv_kinds.specs.declared.kind.Discrete.{Discrete}
use Rattle.smv_kinds.specs.declared.kind.Kind.{Kind}
use Rattle.smv_kinds.specs.declared.kind.Kind.TheVariants as kind
use Rattle.smv_kinds.specs.declared.kind.Operand.{Operand}
use Rattle.smv_kinds.specs.declared.kind.KindRule.{KindRule}
use Rattle.smv_kinds.specs.declared.kind.KindRule.TheVariants as rule
use Rattle.smv_kinds.specs.Intervals.{interval, hull, hull_of, corners, sum_interval, division_interval, opposite_interval, absolute_interval}

-- a kind, or the rule that is broken
abbrev pub Given : Type 0
Given = Result Kind KindRule

abbrev pub mismatch : Given
mismatch = Err rule.TypeMismatch

-- what has no kind breaks the rule of kinds
abbrev pub given : Kind → Given
given kind.Nothing = mismatch
given k = Ok k

abbrev pub kind_if : Bool → Kind → Kind
kind_if fits k = if fits then k else kind.Nothing

abbrev pub boolean_if : Bool → Kind
boolean_if fits = kind_if fits kind.Boolean

-- integers

-- integers of an interval
abbrev pub integers : Interval → Kind
integers i = kind.Discrete (record { integers = Some i; symbols = false })

-- the same, if they have 32 bits
abbrev pub integers_in : Interval → Given
integers_in i = if is_int i.low && is_int i.high then Ok (integers i) else Err rule.IntWidth

-- the interval of what has no symbols
abbrev pub integers_among : Discrete → Option Interval
integers_among d = if d.symbols then None else d.integers

-- the interval of integers alone
abbrev pub integers_of : Kind → Option Interval
integers_of (kind.Discrete d) = integers_among d
integers_of other = None

abbrev pub is_integer : Kind → Bool
is_integer k = is_some (integers_of k)

-- the kind of one value

abbrev pub kind_of_integer : ℤ → Kind
kind_of_integer z = kind_if (is_int z) (integers (interval z z))

abbrev pub kind_of_value : Value → Kind
kind_of_value (value.Bool b) = kind.Boolean
kind_of_value (value.Int z) = kind_of_integer z
kind_of_value (value.Sym n) = kind.Discrete (record { integers = None; symbols = true })
kind_of_value (value.Word s w bits) = kind.Word s w

-- kinds beside each other

-- both boolean, both words of one type, or both discrete
abbrev pub fit : Kind → Kind → Bool
fit kind.Boolean kind.Boolean = true
fit (kind.Word s w) (kind.Word t v) = alike s w t v
fit (kind.Discrete d) (kind.Discrete e) = true
fit a b = false

abbrev pub is_set : Kind → Bool
is_set kind.BooleanSet = true
is_set (kind.DiscreteSet d) = true
is_set other = false

-- the kind of a set's members; of what is no set, its own
abbrev pub members_of : Kind → Kind
members_of kind.BooleanSet = kind.Boolean
members_of (kind.DiscreteSet d) = kind.Discrete d
members_of k = k

-- Whether what has the second kind may be assigned to what has the first, or sought in it: a value or a set of the same
-- kind.
abbrev pub takes : Kind → Kind → Bool
takes a b = fit a (members_of b)

-- the set of this kind, or of a set's members
abbrev pub set_of : Kind → Kind
set_of kind.Boolean = kind.BooleanSet
set_of kind.BooleanSet = kind.BooleanSet
set_of (kind.Discrete d) = kind.DiscreteSet d
set_of (kind.DiscreteSet d) = kind.DiscreteSet d
set_of other = kind.Nothing

abbrev pub both : Discrete → Discrete → Discrete
both d e = record { integers = hull_of d.integers e.integers; symbols = d.symbols || e.symbols }

-- what is of one kind or of the other; a set, if one is
abbrev pub joined : Kind → Kind → Kind
joined kind.Boolean kind.Boolean = kind.Boolean
joined kind.Boolean kind.BooleanSet = kind.BooleanSet
joined kind.BooleanSet kind.Boolean = kind.BooleanSet
joined kind.BooleanSet kind.BooleanSet = kind.BooleanSet
joined (kind.Word s w) (kind.Word t v) = kind_if (alike s w t v) (kind.Word s w)
joined (kind.Discrete d) (kind.Discrete e) = kind.Discrete (both d e)
joined (kind.Discrete d) (kind.DiscreteSet e) = kind.DiscreteSet (both d e)
joined (kind.DiscreteSet d) (kind.Discrete e) = kind.DiscreteSet (both d e)
joined (kind.DiscreteSet d) (kind.DiscreteSet e) = kind.DiscreteSet (both d e)
joined a b = kind.Nothing

-- logic, and how values stand to each other

abbrev pub inverted : Kind → Kind
inverted kind.Boolean = kind.Boolean
inverted (kind.Word s w) = kind.Word s w
inverted other = kind.Nothing

abbrev pub logical : Kind → Kind → Kind
logical kind.Boolean kind.Boolean = kind.Boolean
logical (kind.Word s w) (kind.Word t v) = kind_if (alike s w t v) (kind.Word s w)
logical a b = kind.Nothing

abbrev pub is_ordered : Kind → Kind → Bool
is_ordered (kind.Word s w) (kind.Word t v) = alike s w t v
is_ordered a b = is_integer a && is_integer b

abbrev pub is_boolean : Kind → Bool
is_boolean kind.Boolean = true
is_boolean other = false

-- numbers

abbrev pub of_interval : (Interval → Interval) → Option Interval → Given
of_interval f None = mismatch
of_interval f (Some i) = integers_in (f i)

abbrev pub of_intervals : (Interval → Interval → Interval) → Option Interval → Option Interval → Given
of_intervals f (Some i) (Some j) = integers_in (f i j)
of_intervals f i j = mismatch

-- of integers alone
abbrev pub of_integer : (Interval → Interval) → Kind → Given
of_integer f a = of_interval f (integers_of a)

abbrev pub of_integers : (Interval → Interval → Interval) → Kind → Kind → Given
of_integers f a b = of_intervals f (integers_of a) (integers_of b)

-- of integers, or of words, which give one of their type
abbrev pub of_number : (Interval → Interval) → Kind → Given
of_number f (kind.Word s w) = Ok (kind.Word s w)
of_number f a = of_integer f a

abbrev pub of_numbers : (Interval → Interval → Interval) → Kind → Kind → Given
of_numbers f (kind.Word s w) (kind.Word t v) = given (kind_if (alike s w t v) (kind.Word s w))
of_numbers f a b = of_integers f a b

abbrev pub kind_of_count : List Operand → Given
kind_of_count xs = if list_all (λ (x : Operand). is_boolean x.kind) xs then integers_in (interval (pos 0) (pos (length xs))) else mismatch

-- words

-- how far is shifted: an integer, or an unsigned word
abbrev pub is_amount : Kind → Bool
is_amount (kind.Word s w) = not s
is_amount k = is_integer k

abbrev pub shifted : Kind → Kind → Kind
shifted (kind.Word s w) b = kind_if (is_amount b) (kind.Word s w)
shifted a b = kind.Nothing

-- a word, if one is so wide
abbrev pub word_in : Bool → ℕ → Given
word_in s w = if is_width w then Ok (kind.Word s w) else Err rule.WordWidth

abbrev pub concatenated : Kind → Kind → Given
concatenated (kind.Word s w) (kind.Word t v) = word_in false (w + v)
concatenated a b = mismatch

abbrev pub with_sign : Bool → Kind → Kind
with_sign signed (kind.Word s w) = kind.Word signed w
with_sign signed other = kind.Nothing

abbrev pub size : Kind → Given
size (kind.Word s w) = integers_in (interval (pos w) (pos w))
size other = mismatch

abbrev pub to_word : Kind → Kind
to_word kind.Boolean = kind.Word false 1
to_word other = kind.Nothing

abbrev pub to_boolean : Kind → Kind
to_boolean (kind.Word s w) = boolean_if (w == 1)
to_boolean other = kind.Nothing

-- words and constants: a constant is an integer, whatever kind its expression is told as

abbrev pub extended_by : Bool → ℕ → Option ℤ → Given
extended_by s w None = Err rule.NotConstant
extended_by s w (Some n) = if int_le (pos 0) n then word_in s (w + natural n) else Err rule.WordWidth

-- a signed word loses no bits
abbrev pub resized_to : Bool → ℕ → Option ℤ → Given
resized_to s w None = Err rule.NotConstant
resized_to s w (Some n) = if not s || int_le (pos w) n then word_in s (natural n) else Err rule.WordWidth

abbrev pub of_word : (Bool → ℕ → Given) → Kind → Given
of_word f (kind.Word s w) = f s w
of_word f other = mismatch

abbrev pub with_amount : (Bool → ℕ → Option ℤ → Given) → Operand → Operand → Given
with_amount f a n = of_word (λ s w. if is_set n.kind then mismatch else f s w n.constant) a.kind

-- whether a word of this type is as much
abbrev pub is_within : Bool → ℕ → ℤ → Bool
is_within false w z = int_le (pos 0) z && int_lt z (pos (2 ^ w))
is_within true w z = int_le (neg_ℤ (pos (2 ^ (w - 1)))) z && int_lt z (pos (2 ^ (w - 1)))

abbrev pub constant_within : Bool → ℕ → Option ℤ → Given
constant_within s w None = Err rule.NotConstant
constant_within s w (Some z) = if is_within s w z then Ok (kind.Word s w) else Err rule.WordWidth

abbrev pub constant_in : Bool → Option ℤ → ℕ → Given
constant_in s z w = if is_width w then constant_within s w z else Err rule.WordWidth

abbrev pub constant_word_of : Bool → Option ℤ → Option ℤ → Given
constant_word_of s z None = Err rule.NotConstant
constant_word_of s z (Some n) = constant_in s z (natural n)

abbrev pub constant_word : Bool → Operand → Operand → Given
constant_word s z n = if is_set z.kind || is_set n.kind then mismatch else constant_word_of s z.constant n.constant

abbrev pub bits_from : ℕ → Option ℤ → Option ℤ → Given
bits_from w (Some h) (Some l) =
    if int_le (pos 0) l && int_le l h && int_lt h (pos w) then Ok (kind.Word false (natural h - natural l + 1)) else Err rule.BadSelection
bits_from w h l = Err rule.NotConstant

abbrev pub selected : Operand → Operand → Operand → Given
selected a h l = of_word (λ s w. if is_set h.kind || is_set l.kind then mismatch else bits_from w h.constant l.constant) a.kind

-- arrays

-- An array has no value: an expression names an element of it by as many indices as it has dimensions.
abbrev pub whole_array : List Operand → Given
whole_array [] = Ok kind.Array
whole_array xs = mismatch

-- an array under an index that names no element yet
abbrev pub indexed : Kind → Kind → Kind
indexed kind.Array i = kind_if (is_integer i) kind.Array
indexed a i = kind.Nothing

abbrev pub subscript : Kind → Kind
subscript i = kind_if (is_integer i) i

-- sets and branches

abbrev pub members : List Operand → Kind
members [] = kind.Nothing
members (x ∷ xs) = fold (λ k (y : Operand). joined k (set_of y.kind)) (set_of x.kind) xs

abbrev pub range_of : Option Interval → Option Interval → Kind
range_of (Some i) (Some j) = kind.DiscreteSet (record { integers = Some (hull i j); symbols = false })
range_of i j = kind.Nothing

abbrev pub ranged : Kind → Kind → Kind
ranged a b = range_of (integers_of a) (integers_of b)

-- a branch has values
abbrev pub branch : Kind → Kind
branch kind.Array = kind.Nothing
branch kind.Instance = kind.Nothing
branch k = k

-- conditions and branches by turns, after branches of this kind, and perhaps a last branch
abbrev pub chosen_after : Kind → List Operand → Kind
chosen_after k [] = k
chosen_after k (x ∷ []) = joined k x.kind
chosen_after k (c ∷ x ∷ xs) = if is_boolean c.kind then chosen_after (joined k x.kind) xs else kind.Nothing

abbrev pub chosen : List Operand → Kind
chosen (c ∷ x ∷ xs) = if is_boolean c.kind then chosen_after (branch x.kind) xs else kind.Nothing
chosen other = kind.Nothing

-- formulas

-- so many operands, all booleans
abbrev pub booleans : ℕ → List Operand → Kind
booleans count xs = boolean_if ((length xs == count) && list_all (λ (x : Operand). is_boolean x.kind) xs)

abbrev pub operands_of_temporal : Temporal → ℕ
operands_of_temporal tense.Until = 2
operands_of_temporal tense.Releases = 2
operands_of_temporal tense.Since = 2
operands_of_temporal tense.Triggered = 2
operands_of_temporal other = 1

-- bounds of a temporal operator are no greater
abbrev pub greatest_bound : ℕ
greatest_bound = 255

abbrev pub bounded_by : ℕ → ℕ → Given → Given
bounded_by low high (Err r) = Err r
bounded_by low high (Ok k) = if nat_le low high && nat_le high greatest_bound then Ok k else Err rule.BadBound

-- bounds that are no constants, or negative, or of more than 32 bits
abbrev pub window : Option ℤ → Option ℤ → Given
window (Some low) (Some high) = Err rule.BadBound
window low high = Err rule.NotConstant

-- the same over a formula, whose kind is asked first
abbrev pub window_over : Kind → Option ℤ → Option ℤ → Given
window_over k low high = if is_boolean k then window low high else mismatch

-- how many operands

abbrev pub one : (Kind → Given) → List Operand → Given
one f (x ∷ []) = f x.kind
one f other = mismatch

abbrev pub two : (Kind → Kind → Given) → List Operand → Given
two f (x ∷ y ∷ []) = f x.kind y.kind
two f other = mismatch

abbrev pub two_told : (Operand → Operand → Given) → List Operand → Given
two_told f (x ∷ y ∷ []) = f x y
two_told f other = mismatch

abbrev pub three_told : (Operand → Operand → Operand → Given) → List Operand → Given
three_told f (x ∷ y ∷ z ∷ []) = f x y z
three_told f other = mismatch

-- The table: the kind of an operator over operands, or the first rule that they break.
abbrev pub kind_given : Operator → List Operand → Given
kind_given operator.Not = one (λ a. given (inverted a))
kind_given (operator.Logic o) = two (λ a b. given (logical a b))
kind_given operator.Equal = two (λ a b. given (boolean_if (fit a b)))
kind_given operator.NotEqual = two (λ a b. given (boolean_if (fit a b)))
kind_given (operator.Order o) = two (λ a b. given (boolean_if (is_ordered a b)))
kind_given operator.Negate = one (of_number opposite_interval)
kind_given (operator.Arithmetic o) = two (of_numbers (sum_interval o))
kind_given (operator.Division o) = two (of_numbers (division_interval o))
kind_given operator.Absolute = one (of_integer absolute_interval)
kind_given operator.Maximum = two (of_integers (corners int_max))
kind_given operator.Minimum = two (of_integers (corners int_min))
kind_given operator.Count = kind_of_count
kind_given (operator.Shift o) = two (λ a b. given (shifted a b))
kind_given operator.Join = two concatenated
kind_given operator.Select = three_told selected
kind_given operator.Index = two (λ a i. given (indexed a i))
kind_given operator.WholeArray = whole_array
kind_given operator.Subscript = one (λ i. given (subscript i))
kind_given operator.Members = λ xs. given (members xs)
kind_given operator.Union = two (λ a b. given (joined (set_of a) (set_of b)))
kind_given operator.Range = two (λ a b. given (ranged a b))
kind_given operator.In = two (λ a b. given (boolean_if (takes a b)))
kind_given (operator.Choice r) = λ xs. given (chosen xs)
kind_given operator.ToWord = one (λ a. given (to_word a))
kind_given operator.ToBoolean = one (λ a. given (to_boolean a))
kind_given operator.Signed = one (λ a. given (with_sign true a))
kind_given operator.Unsigned = one (λ a. given (with_sign false a))
kind_given operator.Extend = two_told (with_amount extended_by)
kind_given operator.Resize = two_told (with_amount resized_to)
kind_given operator.Size = one size
kind_given operator.UnsignedConstant = two_told (constant_word false)
kind_given operator.SignedConstant = two_told (constant_word true)
kind_given (operator.Temporal o) = λ xs. given (booleans (operands_of_temporal o) xs)
kind_given (operator.Bounded o low high) = λ xs. bounded_by low high (given (booleans 1 xs))
kind_given (operator.Window o) = three_told (λ (low high x : Operand). window_over x.kind low.constant high.constant)

-- `next` of a value has its kind
abbrev pub next_kind : Kind → Given
next_kind kind.Boolean = Ok kind.Boolean
next_kind (kind.Word s w) = Ok (kind.Word s w)
next_kind (kind.Discrete d) = Ok (kind.Discrete d)
next_kind other = mismatch
