-- The table gives kinds that have what operators give.
use Rattle.std.proofs.Common.{◌≡◌, IsTrue, Bool, true, false, not, cond, Option, None, Some, Ok, List, [], ◌∷◌, ℤ, pos, neg_ℤ, refl, sym, ◌∙◌, unsigned_abs}
use Rattle.std.specs.Int.{int_max, int_min}
use Rattle.std.specs.List.{list_all}
use Rattle.std.proofs.lemmas.Bool.{and_parts, and_from, false≢true}
use Rattle.smv_value.specs.declared.operator.Arithmetic.{Arithmetic}
use Rattle.smv_value.specs.declared.operator.Arithmetic.TheVariants as sum
use Rattle.smv_value.specs.declared.operator.Division.{Division}
use Rattle.smv_value.specs.declared.operator.Division.TheVariants as division
use Rattle.smv_value.specs.declared.operator.Operator.{Operator}
use Rattle.smv_value.specs.declared.operator.Operator.TheVariants as operator
use Rattle.smv_value.specs.declared.value.Value.{Value}
use Rattle.smv_value.specs.declared.value.Value.TheVariants as value
use Rattle.smv_value.specs.declared.value.FaultRule.{FaultRule}
use Rattle.smv_value.specs.Results.{divided, fault_if, fault_of, is_value, is_zero, result_of, same, sum_of, unless, value_of}
use Rattle.smv_value.specs.Results.{constant_word as constant_value, extended as extended_value, inverted as inverted_value, joined as joined_value, logical as logical_value, of_integer as of_integer_value, of_integers as of_integers_value, of_number as of_number_value, of_numbers as of_numbers_value, one as one_value, ordered as ordered_value, resized as resized_value, selected as selected_value, shifted as shifted_value, size as size_of_value, three as three_values, to_boolean as to_boolean_value, to_word as to_word_value, two as two_values, with_sign as value_with_sign}
use Rattle.smv_kinds.specs.declared.kind.Kind.{Kind}
use Rattle.smv_kinds.specs.declared.kind.Operand.{Operand}
use Rattle.smv_kinds.specs.Intervals.{absolute_interval, corners, division_interval, opposite_interval, spanned, sum_interval}
use Rattle.smv_kinds.specs.Kinds.{Given, boolean_if, concatenated, constant_word, extended_by, fit, given, inverted, is_ordered, kind_given, logical, of_integer, of_integers, of_number, of_numbers, one, resized_to, selected, shifted, size, subscript, three_told, to_boolean, to_word, two, two_told, with_amount, with_sign}
use Rattle.smv_kind_laws.specs.Values.{AreOperands, Gives, IsOperand, gives_value, is_among}
use Rattle.smv_kind_laws.proofs.Between.{Between, absolute_within, added, greater, greatest, least, lesser, multiplied, quotient_within, remainder_within, subtracted, turned}
use Rattle.smv_kind_laws.proofs.Fitting.{Bounds, BoundsDivision, BoundsTwo, Fits, among, boolean_fits, concatenated_fits, constant_word_fits, counted_fits, divided_fits, extended_fits, inverted_fits, logical_fits, mismatched, of_integer_fits, of_integers_fits, of_number_fits, of_numbers_fits, ordered_fits, resized_fits, selected_fits, shifted_fits, size_fits, subscript_fits, to_boolean_fits, to_word_fits, with_sign_fits}
use Rattle.smv_kind_laws.proofs.Kept.{IsKept, value_kept}

-- intervals

spanned_ends : (p q r s t : ℤ) → Between (least p q r s) (greatest p q r s) t → Between (spanned p q r s).low (spanned p q r s).high t
unfolding spanned
spanned_ends p q r s t h = h

sum_bounds : (o : Arithmetic) → BoundsTwo (sum_interval o) (sum_of o)
sum_bounds sum.Add = λ i j a b x y. spanned_ends _ _ _ _ _ (added i.low i.high j.low j.high a b x y)
sum_bounds sum.Subtract = λ i j a b x y. spanned_ends _ _ _ _ _ (subtracted i.low i.high j.low j.high a b x y)
sum_bounds sum.Multiply = λ i j a b x y. spanned_ends _ _ _ _ _ (multiplied i.low i.high j.low j.high a b x y)

greatest_bounds : BoundsTwo (corners int_max) int_max
greatest_bounds = λ i j a b x y. spanned_ends _ _ _ _ _ (greater i.low i.high j.low j.high a b x y)

least_bounds : BoundsTwo (corners int_min) int_min
least_bounds = λ i j a b x y. spanned_ends _ _ _ _ _ (lesser i.low i.high j.low j.high a b x y)

division_bounds : (o : Division) → BoundsDivision (division_interval o) (divided o)
division_bounds division.Quotient = λ i j a b some x y. quotient_within i.low i.high a b x
division_bounds division.Remainder = λ i j a b some x y. remainder_within j.low j.high a b some y

opposite_bounds : Bounds opposite_interval neg_ℤ
opposite_bounds = λ i a x. turned i.low i.high a x

absolute_bounds : Bounds absolute_interval (λ a. pos (unsigned_abs a))
absolute_bounds = λ i a x. absolute_within i.low i.high a x

-- how many operands

one_fits : (f : Kind → Given) (g : Value → Option Value) → ((x k : Kind) (v : Value) → IsTrue (is_among x v) → f x ≡ Ok k → Fits k (g v)) →
    (xs : List Operand) (vs : List Value) (k : Kind) → AreOperands xs vs → one f xs ≡ Ok k → Fits k (one_value g vs)
one_fits f g each [] vs k h e = absurd (mismatched k e)
one_fits f g each (x ∷ []) [] k h e = absurd h
one_fits f g each (x ∷ []) (v ∷ []) k h e = each x.kind k v (among x.kind v h.0.kind) e
one_fits f g each (x ∷ []) (v ∷ w ∷ vs) k h e = absurd h.1
one_fits f g each (x ∷ y ∷ xs) vs k h e = absurd (mismatched k e)

index_fits : (xs : List Operand) (vs : List Value) (k : Kind) → AreOperands xs vs → one (λ i. given (subscript i)) xs ≡ Ok k →
    Fits k (one_value (of_integer_value (λ a. a)) vs)
index_fits [] vs k h e = absurd (mismatched k e)
index_fits (x ∷ []) [] k h e = absurd h
index_fits (x ∷ []) (v ∷ []) k h e = subscript_fits x.kind k v h.0.kind e
index_fits (x ∷ []) (v ∷ w ∷ vs) k h e = absurd h.1
index_fits (x ∷ y ∷ xs) vs k h e = absurd (mismatched k e)

two_told_fits : (f : Operand → Operand → Given) (g : Value → Value → Option Value) →
    ((x y : Operand) (k : Kind) (v w : Value) → IsOperand x v → IsOperand y w → f x y ≡ Ok k → Fits k (g v w)) →
    (xs : List Operand) (vs : List Value) (k : Kind) → AreOperands xs vs → two_told f xs ≡ Ok k → Fits k (two_values g vs)
two_told_fits f g each [] vs k h e = absurd (mismatched k e)
two_told_fits f g each (x ∷ []) vs k h e = absurd (mismatched k e)
two_told_fits f g each (x ∷ y ∷ []) [] k h e = absurd h
two_told_fits f g each (x ∷ y ∷ []) (v ∷ []) k h e = absurd h.1
two_told_fits f g each (x ∷ y ∷ []) (v ∷ w ∷ []) k h e = each x y k v w h.0 h.1.0 e
two_told_fits f g each (x ∷ y ∷ []) (v ∷ w ∷ u ∷ vs) k h e = absurd h.1.1
two_told_fits f g each (x ∷ y ∷ z ∷ xs) vs k h e = absurd (mismatched k e)

two_is_told : (f : Kind → Kind → Given) (xs : List Operand) → two f xs ≡ two_told (λ x y. f x.kind y.kind) xs
two_is_told f [] = refl
two_is_told f (x ∷ []) = refl
two_is_told f (x ∷ y ∷ []) = refl
two_is_told f (x ∷ y ∷ z ∷ xs) = refl

two_fits : (f : Kind → Kind → Given) (g : Value → Value → Option Value) →
    ((x y k : Kind) (v w : Value) → IsTrue (is_among x v) → IsTrue (is_among y w) → f x y ≡ Ok k → Fits k (g v w)) →
    (xs : List Operand) (vs : List Value) (k : Kind) → AreOperands xs vs → two f xs ≡ Ok k → Fits k (two_values g vs)
two_fits f g each xs vs k h e =
    two_told_fits (λ (x y : Operand). f x.kind y.kind) g
    (λ x y k v w m n d. each x.kind y.kind k v w (among x.kind v m.kind) (among y.kind w n.kind) d) xs vs k h (sym (two_is_told f xs) ∙ e)

three_told_fits : (f : Operand → Operand → Operand → Given) (g : Value → Value → Value → Option Value) →
    ((x y z : Operand) (k : Kind) (v w u : Value) → IsOperand x v → IsOperand y w → IsOperand z u → f x y z ≡ Ok k → Fits k (g v w u)) →
    (xs : List Operand) (vs : List Value) (k : Kind) → AreOperands xs vs → three_told f xs ≡ Ok k → Fits k (three_values g vs)
three_told_fits f g each [] vs k h e = absurd (mismatched k e)
three_told_fits f g each (x ∷ []) vs k h e = absurd (mismatched k e)
three_told_fits f g each (x ∷ y ∷ []) vs k h e = absurd (mismatched k e)
three_told_fits f g each (x ∷ y ∷ z ∷ []) [] k h e = absurd h
three_told_fits f g each (x ∷ y ∷ z ∷ []) (v ∷ []) k h e = absurd h.1
three_told_fits f g each (x ∷ y ∷ z ∷ []) (v ∷ w ∷ []) k h e = absurd h.1.1
three_told_fits f g each (x ∷ y ∷ z ∷ []) (v ∷ w ∷ u ∷ []) k h e = each x y z k v w u h.0 h.1.0 h.1.1.0 e
three_told_fits f g each (x ∷ y ∷ z ∷ []) (v ∷ w ∷ u ∷ t ∷ vs) k h e = absurd h.1.1.1
three_told_fits f g each (x ∷ y ∷ z ∷ t ∷ xs) vs k h e = absurd (mismatched k e)

no_fault : (b : Bool) (f : FaultRule) → fault_if b f ≡ None → b ≡ false
no_fault true f e = absurd (let l : Some f ≡ None = e in cc)
no_fault false f e = refl

division_fits : (o : Division) (xs : List Operand) (vs : List Value) (k : Kind) → AreOperands xs vs → two (of_numbers (division_interval o)) xs ≡ Ok k →
    fault_of (operator.Division o) vs ≡ None → Fits k (two_values (of_numbers_value (divided o)) vs)
division_fits o [] vs k h e n = absurd (mismatched k e)
division_fits o (x ∷ []) vs k h e n = absurd (mismatched k e)
division_fits o (x ∷ y ∷ []) [] k h e n = absurd h
division_fits o (x ∷ y ∷ []) (v ∷ []) k h e n = absurd h.1
division_fits o (x ∷ y ∷ []) (v ∷ w ∷ []) k h e n =
    divided_fits (division_interval o) (divided o) (division_bounds o) x.kind y.kind k v w (among x.kind v h.0.kind) (among y.kind w h.1.0.kind) e (no_fault (is_zero w) _ n)
division_fits o (x ∷ y ∷ []) (v ∷ w ∷ u ∷ vs) k h e n = absurd h.1.1
division_fits o (x ∷ y ∷ z ∷ xs) vs k h e n = absurd (mismatched k e)

-- the table

fits : (o : Operator) (xs : List Operand) (vs : List Value) (k : Kind) → IsTrue (gives_value o) → AreOperands xs vs →
    kind_given o xs ≡ Ok k → fault_of o vs ≡ None → Fits k (value_of o vs)
fits operator.Not xs vs k g h e n = one_fits (λ a. given (inverted a)) inverted_value inverted_fits xs vs k h e
fits (operator.Logic o) xs vs k g h e n = two_fits (λ a b. given (logical a b)) (logical_value o) (logical_fits o) xs vs k h e
fits operator.Equal xs vs k g h e n =
    two_fits (λ a b. given (boolean_if (fit a b))) (λ a b. Some (value.Bool (same a b))) (λ x y k v w m l d. boolean_fits (fit x y) k (same v w) d) xs vs k h e
fits operator.NotEqual xs vs k g h e n =
    two_fits (λ a b. given (boolean_if (fit a b))) (λ a b. Some (value.Bool (not (same a b)))) (λ x y k v w m l d. boolean_fits (fit x y) k (not (same v w)) d) xs vs k h e
fits (operator.Order o) xs vs k g h e n = two_fits (λ a b. given (boolean_if (is_ordered a b))) (ordered_value o) (ordered_fits o) xs vs k h e
fits operator.Negate xs vs k g h e n = one_fits (of_number opposite_interval) (of_number_value neg_ℤ) (of_number_fits opposite_interval neg_ℤ opposite_bounds) xs vs k h e
fits (operator.Arithmetic o) xs vs k g h e n =
    two_fits (of_numbers (sum_interval o)) (of_numbers_value (sum_of o)) (of_numbers_fits (sum_interval o) (sum_of o) (sum_bounds o)) xs vs k h e
fits (operator.Division o) xs vs k g h e n = division_fits o xs vs k h e n
fits operator.Absolute xs vs k g h e n =
    one_fits (of_integer absolute_interval) (of_integer_value (λ a. pos (unsigned_abs a))) (of_integer_fits absolute_interval (λ a. pos (unsigned_abs a)) absolute_bounds) xs vs k h e
fits operator.Maximum xs vs k g h e n =
    two_fits (of_integers (corners int_max)) (of_integers_value int_max) (of_integers_fits (corners int_max) int_max greatest_bounds) xs vs k h e
fits operator.Minimum xs vs k g h e n =
    two_fits (of_integers (corners int_min)) (of_integers_value int_min) (of_integers_fits (corners int_min) int_min least_bounds) xs vs k h e
fits operator.Count xs vs k g h e n = counted_fits xs vs k h e
fits (operator.Shift o) xs vs k g h e n = two_fits (λ a b. given (shifted a b)) (shifted_value o) (shifted_fits o) xs vs k h e
fits operator.Join xs vs k g h e n = two_fits concatenated joined_value concatenated_fits xs vs k h e
fits operator.Select xs vs k g h e n = three_told_fits selected selected_value selected_fits xs vs k h e
fits operator.Index xs vs k g h e n = absurd (false≢true g)
fits operator.WholeArray xs vs k g h e n = absurd (false≢true g)
fits operator.Subscript xs vs k g h e n = index_fits xs vs k h e
fits operator.Members xs vs k g h e n = absurd (false≢true g)
fits operator.Union xs vs k g h e n = absurd (false≢true g)
fits operator.Range xs vs k g h e n = absurd (false≢true g)
fits operator.In xs vs k g h e n = absurd (false≢true g)
fits (operator.Choice r) xs vs k g h e n = absurd (false≢true g)
fits operator.ToWord xs vs k g h e n = one_fits (λ a. given (to_word a)) to_word_value to_word_fits xs vs k h e
fits operator.ToBoolean xs vs k g h e n = one_fits (λ a. given (to_boolean a)) to_boolean_value to_boolean_fits xs vs k h e
fits operator.Signed xs vs k g h e n = one_fits (λ a. given (with_sign true a)) (value_with_sign true) (with_sign_fits true) xs vs k h e
fits operator.Unsigned xs vs k g h e n = one_fits (λ a. given (with_sign false a)) (value_with_sign false) (with_sign_fits false) xs vs k h e
fits operator.Extend xs vs k g h e n = two_told_fits (with_amount extended_by) extended_value extended_fits xs vs k h e
fits operator.Resize xs vs k g h e n = two_told_fits (with_amount resized_to) resized_value resized_fits xs vs k h e
fits operator.Size xs vs k g h e n = one_fits size size_of_value size_fits xs vs k h e
fits operator.UnsignedConstant xs vs k g h e n = two_told_fits (constant_word false) (constant_value false) (constant_word_fits false) xs vs k h e
fits operator.SignedConstant xs vs k g h e n = two_told_fits (constant_word true) (constant_value true) (constant_word_fits true) xs vs k h e
fits (operator.Temporal o) xs vs k g h e n = absurd (false≢true g)
fits (operator.Bounded o low high) xs vs k g h e n = absurd (false≢true g)
fits (operator.Window o) xs vs k g h e n = absurd (false≢true g)

all_values : (xs : List Operand) (vs : List Value) → AreOperands xs vs → list_all is_value vs ≡ true
all_values [] [] h = refl
all_values [] (v ∷ vs) h = absurd h
all_values (x ∷ xs) [] h = absurd h
all_values (x ∷ xs) (v ∷ vs) h = and_from (is_value v) (list_all is_value vs) (and_parts (is_value v) (is_among x.kind v) h.0.kind).0 (all_values xs vs h.1)

gives_from : (b : Bool) (f : Option FaultRule) (x : Option Value) (k : Kind) → b ≡ true → IsKept x → (f ≡ None → Fits k x) → Gives k (cond b (unless f x) (Ok None))
gives_from true None None k e p h = h refl
gives_from true None (Some v) k e p h = and_from (is_value v) (is_among k v) p (h refl)
gives_from true (Some f) x k e p h = tt
gives_from false f x k e p h = absurd (false≢true e)

pub values_given : (o : Operator) (xs : List Operand) (vs : List Value) (k : Kind) → IsTrue (gives_value o) → AreOperands xs vs →
    kind_given o xs ≡ Ok k → Gives k (result_of o vs)
values_given o xs vs k g h e =
    let all = all_values xs vs h in
    gives_from (list_all is_value vs) (fault_of o vs) (value_of o vs) k all (value_kept o vs all) (λ n. fits o xs vs k g h e n)
