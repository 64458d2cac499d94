-- Operators that give one value take one of each operand.
use Rattle.std.proofs.Common.{◌≡◌, ℕ, Bool, true, false, ◌&&◌, ◌||◌, cond, ◌⊎◌, inl, inr, Option, None, Some, Ok, Err, List, [], ◌∷◌, ℤ, refl}
use Rattle.std.specs.Prelude.{is_some}
use Rattle.std.specs.List.{list_all}
use Rattle.std.proofs.lemmas.Bool.{and_parts, false≢true}
use Rattle.smv_value.specs.declared.operator.Operator.{Operator}
use Rattle.smv_value.specs.declared.operator.Operator.TheVariants as operator
use Rattle.smv_value.specs.Results.{is_width, natural}
use Rattle.smv_kinds.specs.declared.kind.Interval.{Interval}
use Rattle.smv_kinds.specs.declared.kind.Kind.{Kind}
use Rattle.smv_kinds.specs.declared.kind.Kind.TheVariants as kind
use Rattle.smv_kinds.specs.declared.kind.KindRule.{KindRule}
use Rattle.smv_kinds.specs.declared.kind.KindRule.TheVariants as rule
use Rattle.smv_kinds.specs.declared.kind.Operand.{Operand}
use Rattle.smv_kinds.specs.Intervals.{absolute_interval, corners, division_interval, opposite_interval, sum_interval}
use Rattle.std.specs.Int.{int_max, int_min}
use Rattle.smv_kinds.specs.Kinds.{Given, bits_from, boolean_if, concatenated, constant_within, constant_word, constant_word_of, extended_by, fit, given, integers_of, inverted, is_amount, is_boolean, is_integer, is_ordered, is_set, kind_given, logical, mismatch, of_integer, of_integers, of_interval, of_intervals, of_number, of_numbers, of_word, one, resized_to, selected, shifted, size, subscript, three_told, to_boolean, to_word, two, two_told, with_amount, with_sign}
use Rattle.smv_kind_laws.specs.Values.{gives_value}
use Rattle.smv_kind_laws.proofs.Fitting.{asked_is, kind_if_is, mismatched}

-- a boolean, a word, an integer or a symbol: one value
abbrev pub is_single : Kind → Bool
is_single kind.Boolean = true
is_single (kind.Word s w) = true
is_single (kind.Discrete d) = true
is_single other = false

-- one value by its kind, or a constant
abbrev pub IsOne : Operand → Type 0
IsOne x = (is_single x.kind ≡ true) ⊎ ((z : ℤ) × (x.constant ≡ Some z))

abbrev pub AllOne : List Operand → Type 0
AllOne [] = Unit {0}
AllOne (x ∷ xs) = IsOne x × AllOne xs

refused : (r : KindRule) (k : Kind) → Err r ≡ Ok k → ⊥
refused r k e = cc

unset : (b : Bool) (g : Given) (k : Kind) → cond b mismatch g ≡ Ok k → g ≡ Ok k
unset true g k e = absurd (mismatched k e)
unset false g k e = e

-- kinds

pub integer_single : (k : Kind) → is_integer k ≡ true → is_single k ≡ true
integer_single (kind.Discrete d) e = refl
integer_single k e = absurd (false≢true e)

boolean_single : (k : Kind) → is_boolean k ≡ true → is_single k ≡ true
boolean_single kind.Boolean e = refl
boolean_single k e = absurd (false≢true e)

amount_single : (k : Kind) → is_amount k ≡ true → is_single k ≡ true
amount_single (kind.Word s w) e = refl
amount_single k e = integer_single k e

interval_some : (f : Interval → Interval) (o : Option Interval) (k : Kind) → of_interval f o ≡ Ok k → is_some o ≡ true
interval_some f None k e = absurd (mismatched k e)
interval_some f (Some i) k e = refl

intervals_some : (f : Interval → Interval → Interval) (o p : Option Interval) (k : Kind) → of_intervals f o p ≡ Ok k → (is_some o ≡ true) × (is_some p ≡ true)
intervals_some f None p k e = absurd (mismatched k e)
intervals_some f (Some i) None k e = absurd (mismatched k e)
intervals_some f (Some i) (Some j) k e = (refl, refl)

abbrev BothSingle : Kind → Kind → Type 0
BothSingle a b = (is_single a ≡ true) × (is_single b ≡ true)

integer_one : (f : Interval → Interval) (a k : Kind) → of_integer f a ≡ Ok k → is_single a ≡ true
integer_one f a k e = integer_single a (interval_some f (integers_of a) k e)

integers_two : (f : Interval → Interval → Interval) (a b k : Kind) → of_integers f a b ≡ Ok k → BothSingle a b
integers_two f a b k e =
    let p = intervals_some f (integers_of a) (integers_of b) k e in
    (integer_single a p.0, integer_single b p.1)

number_one : (f : Interval → Interval) (a k : Kind) → of_number f a ≡ Ok k → is_single a ≡ true
number_one f (kind.Word s w) k e = refl
number_one f a k e = integer_one f a k e

numbers_two : (f : Interval → Interval → Interval) (a b k : Kind) → of_numbers f a b ≡ Ok k → BothSingle a b
numbers_two f (kind.Word s w) (kind.Word t v) k e = (refl, refl)
numbers_two f a b k e = integers_two f a b k e

inverted_one : (a k : Kind) → given (inverted a) ≡ Ok k → is_single a ≡ true
inverted_one kind.Boolean k e = refl
inverted_one (kind.Word s w) k e = refl
inverted_one a k e = absurd (mismatched k e)

logical_two : (a b k : Kind) → given (logical a b) ≡ Ok k → BothSingle a b
logical_two kind.Boolean kind.Boolean k e = (refl, refl)
logical_two (kind.Word s w) (kind.Word t v) k e = (refl, refl)
logical_two a b k e = absurd (mismatched k e)

fit_two : (a b k : Kind) → given (boolean_if (fit a b)) ≡ Ok k → BothSingle a b
fit_two kind.Boolean kind.Boolean k e = (refl, refl)
fit_two (kind.Word s w) (kind.Word t v) k e = (refl, refl)
fit_two (kind.Discrete d) (kind.Discrete c) k e = (refl, refl)
fit_two a b k e = absurd (mismatched k e)

ordered_two : (a b k : Kind) → given (boolean_if (is_ordered a b)) ≡ Ok k → BothSingle a b
ordered_two (kind.Word s w) (kind.Word t v) k e = (refl, refl)
ordered_two a b k e =
    let p = and_parts (is_integer a) (is_integer b) ((kind_if_is (is_integer a && is_integer b) kind.Boolean k e).0) in
    (integer_single a p.0, integer_single b p.1)

shifted_two : (a b k : Kind) → given (shifted a b) ≡ Ok k → BothSingle a b
shifted_two (kind.Word s w) b k e = (refl, amount_single b ((kind_if_is (is_amount b) (kind.Word s w) k e).0))
shifted_two a b k e = absurd (mismatched k e)

concatenated_two : (a b k : Kind) → concatenated a b ≡ Ok k → BothSingle a b
concatenated_two (kind.Word s w) (kind.Word t v) k e = (refl, refl)
concatenated_two a b k e = absurd (mismatched k e)

sign_one : (s : Bool) (a k : Kind) → given (with_sign s a) ≡ Ok k → is_single a ≡ true
sign_one s (kind.Word t w) k e = refl
sign_one s a k e = absurd (mismatched k e)

size_one : (a k : Kind) → size a ≡ Ok k → is_single a ≡ true
size_one (kind.Word t w) k e = refl
size_one a k e = absurd (mismatched k e)

to_word_one : (a k : Kind) → given (to_word a) ≡ Ok k → is_single a ≡ true
to_word_one kind.Boolean k e = refl
to_word_one a k e = absurd (mismatched k e)

to_boolean_one : (a k : Kind) → given (to_boolean a) ≡ Ok k → is_single a ≡ true
to_boolean_one (kind.Word t w) k e = refl
to_boolean_one a k e = absurd (mismatched k e)

subscript_one : (a k : Kind) → given (subscript a) ≡ Ok k → is_single a ≡ true
subscript_one a k e = integer_single a ((kind_if_is (is_integer a) a k e).0)

-- words and constants

word_one : (g : Bool → ℕ → Given) (a k : Kind) → of_word g a ≡ Ok k → (is_single a ≡ true) × ((s : Bool) × (w : ℕ) × (g s w ≡ Ok k))
word_one g (kind.Word s w) k e = (refl, (s, w, e))
word_one g a k e = absurd (mismatched k e)

abbrev Constant : Operand → Type 0
Constant x = (z : ℤ) × (x.constant ≡ Some z)

some_amount : (g : Option ℤ → Given) (c : Option ℤ) (k : Kind) → (g None ≡ Ok k → ⊥) → g c ≡ Ok k → (z : ℤ) × (c ≡ Some z)
some_amount g None k never e = absurd (never e)
some_amount g (Some z) k never e = (z, refl)

amount_two : (f : Bool → ℕ → Option ℤ → Given) → ((s : Bool) (w : ℕ) (k : Kind) → f s w None ≡ Ok k → ⊥) → (a n : Operand) (k : Kind) → with_amount f a n ≡ Ok k → IsOne a × IsOne n
amount_two f never a n k e =
    let p = word_one (λ s w. cond (is_set n.kind) mismatch (f s w n.constant)) a.kind k e in
    let s = p.1.0 in
    let w = p.1.1 in
    (inl p.0, inr (some_amount (f s w) n.constant k (never s w k) (unset (is_set n.kind) (f s w n.constant) k p.1.2)))

not_extended : (s : Bool) (w : ℕ) (k : Kind) → extended_by s w None ≡ Ok k → ⊥
not_extended s w k e = refused rule.NotConstant k e

not_resized : (s : Bool) (w : ℕ) (k : Kind) → resized_to s w None ≡ Ok k → ⊥
not_resized s w k e = refused rule.NotConstant k e

abbrev TwoConstants : Option ℤ → Option ℤ → Type 0
TwoConstants c d = ((z : ℤ) × (c ≡ Some z)) × ((z : ℤ) × (d ≡ Some z))

bits_some : (w : ℕ) (c d : Option ℤ) (k : Kind) → bits_from w c d ≡ Ok k → TwoConstants c d
bits_some w (Some h) (Some l) k e = ((h, refl), (l, refl))
bits_some w (Some h) None k e = absurd (refused rule.NotConstant k e)
bits_some w None d k e = absurd (refused rule.NotConstant k e)

selected_three : (x h l : Operand) (k : Kind) → selected x h l ≡ Ok k → IsOne x × IsOne h × IsOne l
selected_three x h l k e =
    let p = word_one (λ s w. cond (is_set h.kind || is_set l.kind) mismatch (bits_from w h.constant l.constant)) x.kind k e in
    let w = p.1.1 in
    let both = bits_some w h.constant l.constant k (unset (is_set h.kind || is_set l.kind) (bits_from w h.constant l.constant) k p.1.2) in
    (inl p.0, inr both.0, inr both.1)

word_some : (s : Bool) (c d : Option ℤ) (k : Kind) → constant_word_of s c d ≡ Ok k → TwoConstants c d
word_some s c None k e = absurd (refused rule.NotConstant k e)
word_some s None (Some n) k e =
    absurd (refused rule.NotConstant k ((asked_is (is_width (natural n)) (constant_within s (natural n) None) rule.WordWidth k e).1))
word_some s (Some z) (Some n) k e = ((z, refl), (n, refl))

constant_two : (s : Bool) (z n : Operand) (k : Kind) → constant_word s z n ≡ Ok k → IsOne z × IsOne n
constant_two s z n k e =
    let both = word_some s z.constant n.constant k (unset (is_set z.kind || is_set n.kind) (constant_word_of s z.constant n.constant) k e) in
    (inr both.0, inr both.1)

-- as many operands as there are

one_of : (f : Kind → Given) → ((a k : Kind) → f a ≡ Ok k → is_single a ≡ true) → (xs : List Operand) (k : Kind) → one f xs ≡ Ok k → AllOne xs
one_of f each [] k e = absurd (mismatched k e)
one_of f each (x ∷ []) k e = (inl (each x.kind k e), tt)
one_of f each (x ∷ y ∷ xs) k e = absurd (mismatched k e)

two_of : (f : Kind → Kind → Given) → ((a b k : Kind) → f a b ≡ Ok k → BothSingle a b) → (xs : List Operand) (k : Kind) → two f xs ≡ Ok k → AllOne xs
two_of f each [] k e = absurd (mismatched k e)
two_of f each (x ∷ []) k e = absurd (mismatched k e)
two_of f each (x ∷ y ∷ []) k e = let p = each x.kind y.kind k e in (inl p.0, (inl p.1, tt))
two_of f each (x ∷ y ∷ z ∷ xs) k e = absurd (mismatched k e)

two_told_of : (f : Operand → Operand → Given) → ((x y : Operand) (k : Kind) → f x y ≡ Ok k → IsOne x × IsOne y) → (xs : List Operand) (k : Kind) → two_told f xs ≡ Ok k → AllOne xs
two_told_of f each [] k e = absurd (mismatched k e)
two_told_of f each (x ∷ []) k e = absurd (mismatched k e)
two_told_of f each (x ∷ y ∷ []) k e = let p = each x y k e in (p.0, (p.1, tt))
two_told_of f each (x ∷ y ∷ z ∷ xs) k e = absurd (mismatched k e)

three_told_of : (f : Operand → Operand → Operand → Given) → ((x y z : Operand) (k : Kind) → f x y z ≡ Ok k → IsOne x × IsOne y × IsOne z) →
    (xs : List Operand) (k : Kind) → three_told f xs ≡ Ok k → AllOne xs
three_told_of f each [] k e = absurd (mismatched k e)
three_told_of f each (x ∷ []) k e = absurd (mismatched k e)
three_told_of f each (x ∷ y ∷ []) k e = absurd (mismatched k e)
three_told_of f each (x ∷ y ∷ z ∷ []) k e = let p = each x y z k e in (p.0, (p.1, (p.2, tt)))
three_told_of f each (x ∷ y ∷ z ∷ t ∷ xs) k e = absurd (mismatched k e)

all_boolean : (xs : List Operand) → list_all (λ (x : Operand). is_boolean x.kind) xs ≡ true → AllOne xs
all_boolean [] e = tt
all_boolean (x ∷ xs) e =
    let p = and_parts (is_boolean x.kind) (list_all (λ (y : Operand). is_boolean y.kind) xs) e in
    (inl (boolean_single x.kind p.0), all_boolean xs p.1)

-- what operators that give one value are given
pub all_one : (o : Operator) (xs : List Operand) (k : Kind) → gives_value o ≡ true → kind_given o xs ≡ Ok k → AllOne xs
all_one operator.Not xs k g e = one_of (λ a. given (inverted a)) inverted_one xs k e
all_one (operator.Logic o) xs k g e = two_of (λ a b. given (logical a b)) logical_two xs k e
all_one operator.Equal xs k g e = two_of (λ a b. given (boolean_if (fit a b))) fit_two xs k e
all_one operator.NotEqual xs k g e = two_of (λ a b. given (boolean_if (fit a b))) fit_two xs k e
all_one (operator.Order o) xs k g e = two_of (λ a b. given (boolean_if (is_ordered a b))) ordered_two xs k e
all_one operator.Negate xs k g e = one_of (of_number opposite_interval) (number_one opposite_interval) xs k e
all_one (operator.Arithmetic o) xs k g e = two_of (of_numbers (sum_interval o)) (numbers_two (sum_interval o)) xs k e
all_one (operator.Division o) xs k g e = two_of (of_numbers (division_interval o)) (numbers_two (division_interval o)) xs k e
all_one operator.Absolute xs k g e = one_of (of_integer absolute_interval) (integer_one absolute_interval) xs k e
all_one operator.Maximum xs k g e = two_of (of_integers (corners int_max)) (integers_two (corners int_max)) xs k e
all_one operator.Minimum xs k g e = two_of (of_integers (corners int_min)) (integers_two (corners int_min)) xs k e
all_one operator.Count xs k g e = all_boolean xs ((asked_is (list_all (λ (x : Operand). is_boolean x.kind) xs) _ rule.TypeMismatch k e).0)
all_one (operator.Shift o) xs k g e = two_of (λ a b. given (shifted a b)) shifted_two xs k e
all_one operator.Join xs k g e = two_of concatenated concatenated_two xs k e
all_one operator.Select xs k g e = three_told_of selected selected_three xs k e
all_one operator.Subscript xs k g e = one_of (λ a. given (subscript a)) subscript_one xs k e
all_one operator.ToWord xs k g e = one_of (λ a. given (to_word a)) to_word_one xs k e
all_one operator.ToBoolean xs k g e = one_of (λ a. given (to_boolean a)) to_boolean_one xs k e
all_one operator.Signed xs k g e = one_of (λ a. given (with_sign true a)) (sign_one true) xs k e
all_one operator.Unsigned xs k g e = one_of (λ a. given (with_sign false a)) (sign_one false) xs k e
all_one operator.Extend xs k g e = two_told_of (with_amount extended_by) (amount_two extended_by not_extended) xs k e
all_one operator.Resize xs k g e = two_told_of (with_amount resized_to) (amount_two resized_to not_resized) xs k e
all_one operator.Size xs k g e = one_of size size_one xs k e
all_one operator.UnsignedConstant xs k g e = two_told_of (constant_word false) (constant_two false) xs k e
all_one operator.SignedConstant xs k g e = two_told_of (constant_word true) (constant_two true) xs k e
all_one other xs k g e = absurd (false≢true g)
