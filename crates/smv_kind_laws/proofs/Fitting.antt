-- Operators give values of the kinds that the table gives.
use Rattle.std.proofs.Common.{◌≡◌, ℕ, zero, suc, ◌+◌, ◌-◌, ◌*◌, ◌^◌, ◌<◌, ◌≤◌, IsTrue, Bool, true, false, not, ◌&&◌, ◌||◌, cond, Option, None, Some, Ok, Err, List, [], ◌∷◌, length, ℤ, pos, negsuc, refl, sym, ap, ◌∙◌, subst, arith, unsigned_abs}
use Rattle.std.specs.Prelude.{◌/◌, ◌==◌, count_by, int_le, int_lt, is_some}
use Rattle.std.specs.Bool.{beq}
use Rattle.std.specs.List.{list_all}
use Rattle.std.proofs.lemmas.Bool.{and_parts, and_from, eqb-true, eq-eqb, false≢true, true≢false}
use Rattle.std.proofs.lemmas.Int.{ints}
use Rattle.std.proofs.lemmas.List.Sums.{count_by-le-length}
use Rattle.smv_value.specs.declared.operator.Logic.{Logic}
use Rattle.smv_value.specs.declared.operator.Order.{Order}
use Rattle.smv_value.specs.declared.operator.Shift.{Shift}
use Rattle.smv_value.specs.declared.value.Value.{Value}
use Rattle.smv_value.specs.declared.value.Value.TheVariants as value
use Rattle.smv_value.specs.Results.{alike, amount, integer, is_int, is_true, is_value, is_width, is_word, is_zero, natural, order_truth, word_of}
use Rattle.smv_value.specs.Results.{bits_from as bits_of_value, constant_word as constant_value, extended as extended_value, inverted as inverted_value, joined as joined_value, logical as logical_value, of_integer as of_integer_value, of_integers as of_integers_value, of_number as of_number_value, of_numbers as of_numbers_value, ordered as ordered_value, resized as resized_value, selected as selected_value, shifted as shifted_value, shifted_by, size as size_of_value, to_boolean as to_boolean_value, to_word as to_word_value, with_sign as value_with_sign}
use Rattle.smv_kinds.specs.declared.kind.Interval.{Interval}
use Rattle.smv_kinds.specs.declared.kind.Discrete.{Discrete}
use Rattle.smv_kinds.specs.declared.kind.Kind.{Kind}
use Rattle.smv_kinds.specs.declared.kind.Kind.TheVariants as kind
use Rattle.smv_kinds.specs.declared.kind.Operand.{Operand}
use Rattle.smv_kinds.specs.declared.kind.KindRule.{KindRule}
use Rattle.smv_kinds.specs.declared.kind.KindRule.TheVariants as rule
use Rattle.smv_kinds.specs.Intervals.{interval}
use Rattle.smv_kinds.specs.Kinds.{Given, bits_from, boolean_if, concatenated, constant_within, constant_word, constant_word_of, extended_by, given, integers, integers_among, integers_in, integers_of, inverted, is_amount, is_boolean, is_integer, is_ordered, is_set, is_within, kind_if, kind_of_count, logical, mismatch, of_integer, of_integers, of_interval, of_intervals, of_number, of_numbers, of_word, resized_to, selected, shifted, size, subscript, to_boolean, to_word, with_amount, with_sign, word_in}
use Rattle.smv_kind_laws.specs.Values.{AreOperands, IsOperand, is_among, is_element, is_in, is_in_some, is_of_kind}
use Rattle.smv_kind_laws.proofs.Between.{Between, between_from, between_test, within}

-- a value, and of this kind
abbrev pub Fits : Kind → Option Value → Type 0
Fits k None = ⊥
Fits k (Some v) = IsTrue (is_among k v)

-- what the table answers

abbrev pub answer : Kind → Given
answer k = Ok k

refused : (r : KindRule) (k : Kind) → Err r ≡ Ok k → ⊥
refused r k e = cc

pub mismatched : (k : Kind) → mismatch ≡ Ok k → ⊥
mismatched k e = refused rule.TypeMismatch k e

pub answer_is : (j k : Kind) → answer j ≡ answer k → j ≡ k
answer_is j k e = cc

pub given_is : (j k : Kind) → given j ≡ Ok k → j ≡ k
given_is kind.Nothing k e = absurd (mismatched k e)
given_is j k e = answer_is j k e

pub asked_is : (b : Bool) (g : Given) (r : KindRule) (k : Kind) → cond b g (Err r) ≡ Ok k → (b ≡ true) × (g ≡ Ok k)
asked_is true g r k e = (refl, e)
asked_is false g r k e = absurd (refused r k e)

unset_is : (b : Bool) (g : Given) (k : Kind) → cond b mismatch g ≡ Ok k → g ≡ Ok k
unset_is true g k e = absurd (mismatched k e)
unset_is false g k e = e

pub kind_if_is : (b : Bool) (j k : Kind) → given (kind_if b j) ≡ Ok k → (b ≡ true) × (j ≡ k)
kind_if_is true j k e = (refl, given_is j k e)
kind_if_is false j k e = absurd (mismatched k e)

-- results of a kind

fits_as : (j k : Kind) (r : Option Value) → j ≡ k → Fits j r → Fits k r
fits_as j k r e h = let P : Kind → Type 0 = λ x. Fits x r in subst P e h

fits_if : (b : Bool) (k : Kind) (v : Value) → b ≡ true → IsTrue (is_among k v) → Fits k (cond b (Some v) None)
fits_if true k v e h = h
fits_if false k v e h = absurd (false≢true e)

pub boolean_fits : (b : Bool) (k : Kind) (x : Bool) → given (boolean_if b) ≡ Ok k → Fits k (Some (value.Bool x))
boolean_fits b k x e = fits_as kind.Boolean k (Some (value.Bool x)) (kind_if_is b kind.Boolean k e).1 refl

beq_self : (s : Bool) → beq s s ≡ true
beq_self true = refl
beq_self false = refl

beq_is : (s t : Bool) → beq s t ≡ true → s ≡ t
beq_is true true e = refl
beq_is true false e = absurd (false≢true e)
beq_is false true e = absurd (false≢true e)
beq_is false false e = refl

pub alike_self : (s : Bool) (w : ℕ) → alike s w s w ≡ true
alike_self s w = and_from (beq s s) (w == w) (beq_self s) (eq-eqb w w refl)

word_fits : (s : Bool) (w : ℕ) (k : Kind) (a : ℕ) → kind.Word s w ≡ k → Fits k (Some (value.Word s w a))
word_fits s w k a e = fits_as (kind.Word s w) k (Some (value.Word s w a)) e (alike_self s w)

word_if_fits : (b : Bool) (s : Bool) (w : ℕ) (k : Kind) (a : ℕ) → b ≡ true → kind.Word s w ≡ k → Fits k (cond b (Some (value.Word s w a)) None)
word_if_fits true s w k a h e = word_fits s w k a e
word_if_fits false s w k a h e = absurd (false≢true h)

-- what a value of a kind is

boolean_value : (v : Value) → IsTrue (is_among kind.Boolean v) → (b : Bool) × (v ≡ value.Bool b)
boolean_value (value.Bool b) h = (b, refl)
boolean_value (value.Int z) h = absurd (false≢true h)
boolean_value (value.Sym n) h = absurd (false≢true h)
boolean_value (value.Word s w a) h = absurd (false≢true h)

word_same : (s : Bool) (w : ℕ) (t : Bool) (u a : ℕ) → alike s w t u ≡ true → value.Word t u a ≡ value.Word s w a
word_same s w t u a h =
    let p = and_parts (beq s t) (w == u) h in
    let sign : s ≡ t = beq_is s t p.0 in
    let width : w ≡ u = eqb-true w u p.1 in
    cc

pub same_type : (s : Bool) (w : ℕ) (t : Bool) (u : ℕ) → alike s w t u ≡ true → kind.Word s w ≡ kind.Word t u
same_type s w t u h =
    let p = and_parts (beq s t) (w == u) h in
    let sign : s ≡ t = beq_is s t p.0 in
    let width : w ≡ u = eqb-true w u p.1 in
    cc

word_value : (s : Bool) (w : ℕ) (v : Value) → IsTrue (is_among (kind.Word s w) v) → (a : ℕ) × (v ≡ value.Word s w a)
word_value s w (value.Bool b) h = absurd (false≢true h)
word_value s w (value.Int z) h = absurd (false≢true h)
word_value s w (value.Sym n) h = absurd (false≢true h)
word_value s w (value.Word t u a) h = (a, word_same s w t u a h)

unsymboled : (b : Bool) (o : Option Interval) (i : Interval) → cond b None o ≡ Some i → (b ≡ false) × (o ≡ Some i)
unsymboled true o i e = absurd (let l : None ≡ Some i = e in cc)
unsymboled false o i e = (refl, e)

discrete_value : (d : Discrete) (i : Interval) (v : Value) → integers_among d ≡ Some i → IsTrue (is_element d v) → (z : ℤ) × (v ≡ value.Int z) × IsTrue (is_in i z)
discrete_value d i (value.Bool b) e h = absurd (false≢true h)
discrete_value d i (value.Int z) e h =
    let P : Option Interval → Type 0 = λ o. is_in_some o z ≡ true in
    (z, refl, subst P (unsymboled d.symbols d.integers i e).1 h)
discrete_value d i (value.Sym n) e h = absurd (false≢true (sym (unsymboled d.symbols d.integers i e).0 ∙ h))
discrete_value d i (value.Word s w a) e h = absurd (false≢true h)

none_is_some : {A : Type 0} (i : Interval) → None ≡ Some i → A
none_is_some i e = absurd cc

-- of integers alone an integer of their interval
pub integer_value : (x : Kind) (i : Interval) (v : Value) → integers_of x ≡ Some i → IsTrue (is_among x v) → (z : ℤ) × (v ≡ value.Int z) × IsTrue (is_in i z)
integer_value (kind.Discrete d) i v e h = discrete_value d i v e h
integer_value x i v e h = none_is_some i e

some_of : (o : Option Interval) → is_some o ≡ true → (i : Interval) × (o ≡ Some i)
some_of None h = absurd (false≢true h)
some_of (Some i) h = (i, refl)

at_one : (P : Value → Type 0) (v a : Value) → v ≡ a → P a → P v
at_one P v a e h = subst P (sym e) h

at_two : (P : Value → Value → Type 0) (v a w b : Value) → v ≡ a → w ≡ b → P a b → P v w
at_two P v a w b e f h =
    let Q : Value → Type 0 = λ p. P p w in
    let R : Value → Type 0 = λ q. P a q in
    subst Q (sym e) (subst R (sym f) h)

-- logic and order

pub inverted_fits : (x k : Kind) (v : Value) → IsTrue (is_among x v) → given (inverted x) ≡ Ok k → Fits k (inverted_value v)
inverted_fits kind.Boolean k v h e =
    let a = boolean_value v h in
    at_one (λ (u : Value). Fits k (inverted_value u)) v (value.Bool a.0) a.1 (fits_as kind.Boolean k (Some (value.Bool (not a.0))) (given_is kind.Boolean k e) refl)
inverted_fits (kind.Word s w) k v h e =
    let a = word_value s w v h in
    at_one (λ (u : Value). Fits k (inverted_value u)) v (value.Word s w a.0) a.1 (word_fits s w k _ (given_is (kind.Word s w) k e))
inverted_fits x k v h e = absurd (mismatched k e)

pub logical_fits : (o : Logic) (x y k : Kind) (v w : Value) → IsTrue (is_among x v) → IsTrue (is_among y w) → given (logical x y) ≡ Ok k → Fits k (logical_value o v w)
logical_fits o kind.Boolean kind.Boolean k v w h l e =
    let a = boolean_value v h in
    let b = boolean_value w l in
    at_two (λ (p q : Value). Fits k (logical_value o p q)) v (value.Bool a.0) w (value.Bool b.0) a.1 b.1
    (fits_as kind.Boolean k (logical_value o (value.Bool a.0) (value.Bool b.0)) (given_is kind.Boolean k e) refl)
logical_fits o (kind.Word s u) (kind.Word t m) k v w h l e =
    let a = word_value s u v h in
    let b = word_value t m w l in
    let is = kind_if_is (alike s u t m) (kind.Word s u) k e in
    at_two (λ (p q : Value). Fits k (logical_value o p q)) v (value.Word s u a.0) w (value.Word t m b.0) a.1 b.1
    (word_if_fits (alike s u t m) s u k _ is.0 is.1)
logical_fits o x y k v w h l e = absurd (mismatched k e)

integers_ordered : (o : Order) (x y k : Kind) (v w : Value) → IsTrue (is_among x v) → IsTrue (is_among y w) →
    given (boolean_if (is_integer x && is_integer y)) ≡ Ok k → Fits k (ordered_value o v w)
integers_ordered o x y k v w h l e =
    let both = and_parts (is_integer x) (is_integer y) (kind_if_is (is_integer x && is_integer y) kind.Boolean k e).0 in
    let i = some_of (integers_of x) both.0 in
    let j = some_of (integers_of y) both.1 in
    let a = integer_value x i.0 v i.1 h in
    let b = integer_value y j.0 w j.1 l in
    at_two (λ (p q : Value). Fits k (ordered_value o p q)) v (value.Int a.0) w (value.Int b.0) a.1 b.1
    (boolean_fits (is_integer x && is_integer y) k (order_truth o a.0 b.0) e)

boolean_if_fits : (b : Bool) (k : Kind) (x : Bool) → given (boolean_if b) ≡ Ok k → Fits k (cond b (Some (value.Bool x)) None)
boolean_if_fits true k x e = boolean_fits true k x e
boolean_if_fits false k x e = absurd (mismatched k e)

pub ordered_fits : (o : Order) (x y k : Kind) (v w : Value) → IsTrue (is_among x v) → IsTrue (is_among y w) →
    given (boolean_if (is_ordered x y)) ≡ Ok k → Fits k (ordered_value o v w)
ordered_fits o (kind.Word s u) (kind.Word t m) k v w h l e =
    let a = word_value s u v h in
    let b = word_value t m w l in
    at_two (λ (p q : Value). Fits k (ordered_value o p q)) v (value.Word s u a.0) w (value.Word t m b.0) a.1 b.1
    (boolean_if_fits (alike s u t m) k _ e)
ordered_fits o x y k v w h l e = integers_ordered o x y k v w h l e

-- integers

int_between : (i : Interval) (z : ℤ) → (is_int i.low && is_int i.high) ≡ true → Between i.low i.high z → is_int z ≡ true
int_between i z t b =
    let p = and_parts (is_int i.low) (is_int i.high) t in
    let low = between_from (negsuc 2147483647) (pos 2147483647) i.low p.0 in
    let high = between_from (negsuc 2147483647) (pos 2147483647) i.high p.1 in
    between_test (negsuc 2147483647) (pos 2147483647) z (within (negsuc 2147483647) (pos 2147483647) i.low i.high z low high b)

fits_interval : (t : Bool) (i : Interval) (z : ℤ) (k : Kind) → (t ≡ true → is_int z ≡ true) → is_in i z ≡ true →
    cond t (answer (integers i)) (Err rule.IntWidth) ≡ Ok k → Fits k (integer z)
fits_interval true i z k f h e = fits_as (integers i) k (integer z) (answer_is (integers i) k e) (fits_if (is_int z) (integers i) (value.Int z) (f refl) h)
fits_interval false i z k f h e = absurd (refused rule.IntWidth k e)

interval_fits : (i : Interval) (z : ℤ) (k : Kind) → Between i.low i.high z → integers_in i ≡ Ok k → Fits k (integer z)
interval_fits i z k b e = fits_interval (is_int i.low && is_int i.high) i z k (λ t. int_between i z t b) (between_test i.low i.high z b) e

interval_of : (f : Interval → Interval) (o : Option Interval) (k : Kind) → of_interval f o ≡ Ok k → (i : Interval) × (o ≡ Some i) × (integers_in (f i) ≡ Ok k)
interval_of f None k e = absurd (mismatched k e)
interval_of f (Some i) k e = (i, refl, e)

record TwoIntervals (f : Interval → Interval → Interval) (o p : Option Interval) (k : Kind) : Type 0 where
  left : Interval
  right : Interval
  is_left : o ≡ Some left
  is_right : p ≡ Some right
  fits : integers_in (f left right) ≡ Ok k

intervals_of : (f : Interval → Interval → Interval) (o p : Option Interval) (k : Kind) → of_intervals f o p ≡ Ok k → TwoIntervals f o p k
intervals_of f None p k e = absurd (mismatched k e)
intervals_of f (Some i) None k e = absurd (mismatched k e)
intervals_of f (Some i) (Some j) k e = record { left = i; right = j; is_left = refl; is_right = refl; fits = e }

-- what holds of integers of these intervals holds of the two values
of_two_integers : (f : Interval → Interval → Interval) (x y k : Kind) (v w : Value) (P : Value → Value → Type 0) →
    IsTrue (is_among x v) → IsTrue (is_among y w) → of_integers f x y ≡ Ok k →
    ((i j : Interval) (a b : ℤ) → Between i.low i.high a → Between j.low j.high b → integers_in (f i j) ≡ Ok k → P (value.Int a) (value.Int b)) → P v w
of_two_integers f x y k v w P h l e each =
    let c = intervals_of f (integers_of x) (integers_of y) k e in
    let a = integer_value x c.left v c.is_left h in
    let b = integer_value y c.right w c.is_right l in
    at_two P v (value.Int a.0) w (value.Int b.0) a.1 b.1
    (each c.left c.right a.0 b.0 (between_from c.left.low c.left.high a.0 a.2) (between_from c.right.low c.right.high b.0 b.2) c.fits)

-- the integers that f gives are within the interval that it gives
abbrev pub Bounds : (Interval → Interval) → (ℤ → ℤ) → Type 0
Bounds f g = (i : Interval) (a : ℤ) → Between i.low i.high a → Between (f i).low (f i).high (g a)

abbrev pub BoundsTwo : (Interval → Interval → Interval) → (ℤ → ℤ → ℤ) → Type 0
BoundsTwo f g = (i j : Interval) (a b : ℤ) → Between i.low i.high a → Between j.low j.high b → Between (f i j).low (f i j).high (g a b)

pub of_integer_fits : (f : Interval → Interval) (g : ℤ → ℤ) → Bounds f g → (x k : Kind) (v : Value) → IsTrue (is_among x v) →
    of_integer f x ≡ Ok k → Fits k (of_integer_value g v)
of_integer_fits f g bounds x k v h e =
    let c = interval_of f (integers_of x) k e in
    let a = integer_value x c.0 v c.1 h in
    at_one (λ (u : Value). Fits k (of_integer_value g u)) v (value.Int a.0) a.1
    (interval_fits (f c.0) (g a.0) k (bounds c.0 a.0 (between_from c.0.low c.0.high a.0 a.2)) c.2)

-- an index is its own value
index_fits : (x : Kind) (v : Value) (z : ℤ) → v ≡ value.Int z → IsTrue (is_value v) → IsTrue (is_among x v) → Fits x (of_integer_value (λ a. a) v)
index_fits x v z e =
    at_one (λ (u : Value). IsTrue (is_value u) → IsTrue (is_among x u) → Fits x (of_integer_value (λ a. a) u)) v (value.Int z) e
    (λ h l. fits_if (is_int z) x (value.Int z) h l)

pub subscript_fits : (x k : Kind) (v : Value) → IsTrue (is_of_kind x v) → given (subscript x) ≡ Ok k → Fits k (of_integer_value (λ a. a) v)
subscript_fits x k v h e =
    let is = kind_if_is (is_integer x) x k e in
    let i = some_of (integers_of x) is.0 in
    let p = and_parts (is_value v) (is_among x v) h in
    let a = integer_value x i.0 v i.1 p.1 in
    fits_as x k (of_integer_value (λ a. a) v) is.1 (index_fits x v a.0 a.1 p.0 p.1)

integer_number_fits : (f : Interval → Interval) (g : ℤ → ℤ) → Bounds f g → (x k : Kind) (v : Value) → IsTrue (is_among x v) →
    of_integer f x ≡ Ok k → Fits k (of_number_value g v)
integer_number_fits f g bounds x k v h e =
    let c = interval_of f (integers_of x) k e in
    let a = integer_value x c.0 v c.1 h in
    at_one (λ (u : Value). Fits k (of_number_value g u)) v (value.Int a.0) a.1
    (interval_fits (f c.0) (g a.0) k (bounds c.0 a.0 (between_from c.0.low c.0.high a.0 a.2)) c.2)

pub of_number_fits : (f : Interval → Interval) (g : ℤ → ℤ) → Bounds f g → (x k : Kind) (v : Value) → IsTrue (is_among x v) →
    of_number f x ≡ Ok k → Fits k (of_number_value g v)
of_number_fits f g bounds (kind.Word s u) k v h e =
    let a = word_value s u v h in
    at_one (λ (p : Value). Fits k (of_number_value g p)) v (value.Word s u a.0) a.1 (word_fits s u k _ (answer_is (kind.Word s u) k e))
of_number_fits f g bounds x k v h e = integer_number_fits f g bounds x k v h e

pub of_integers_fits : (f : Interval → Interval → Interval) (g : ℤ → ℤ → ℤ) → BoundsTwo f g → (x y k : Kind) (v w : Value) →
    IsTrue (is_among x v) → IsTrue (is_among y w) → of_integers f x y ≡ Ok k → Fits k (of_integers_value g v w)
of_integers_fits f g bounds x y k v w h l e =
    of_two_integers f x y k v w (λ (p q : Value). Fits k (of_integers_value g p q)) h l e
    (λ i j a b m n d. interval_fits (f i j) (g a b) k (bounds i j a b m n) d)

integer_numbers_fit : (f : Interval → Interval → Interval) (g : ℤ → ℤ → ℤ) → BoundsTwo f g → (x y k : Kind) (v w : Value) →
    IsTrue (is_among x v) → IsTrue (is_among y w) → of_integers f x y ≡ Ok k → Fits k (of_numbers_value g v w)
integer_numbers_fit f g bounds x y k v w h l e =
    of_two_integers f x y k v w (λ (p q : Value). Fits k (of_numbers_value g p q)) h l e
    (λ i j a b m n d. interval_fits (f i j) (g a b) k (bounds i j a b m n) d)

words_fit : (g : ℤ → ℤ → ℤ) (s : Bool) (u : ℕ) (t : Bool) (m : ℕ) (k : Kind) (v w : Value) →
    IsTrue (is_among (kind.Word s u) v) → IsTrue (is_among (kind.Word t m) w) → given (kind_if (alike s u t m) (kind.Word s u)) ≡ Ok k →
    Fits k (of_numbers_value g v w)
words_fit g s u t m k v w h l e =
    let a = word_value s u v h in
    let b = word_value t m w l in
    let is = kind_if_is (alike s u t m) (kind.Word s u) k e in
    at_two (λ (p q : Value). Fits k (of_numbers_value g p q)) v (value.Word s u a.0) w (value.Word t m b.0) a.1 b.1
    (word_if_fits (alike s u t m) s u k _ is.0 is.1)

pub of_numbers_fits : (f : Interval → Interval → Interval) (g : ℤ → ℤ → ℤ) → BoundsTwo f g → (x y k : Kind) (v w : Value) →
    IsTrue (is_among x v) → IsTrue (is_among y w) → of_numbers f x y ≡ Ok k → Fits k (of_numbers_value g v w)
of_numbers_fits f g bounds (kind.Word s u) (kind.Word t m) k v w h l e = words_fit g s u t m k v w h l e
of_numbers_fits f g bounds x y k v w h l e = integer_numbers_fit f g bounds x y k v w h l e

some_divisor : (b : ℤ) → is_zero (value.Int b) ≡ false → 0 < unsigned_abs b
some_divisor (pos zero) h = absurd (true≢false h)
some_divisor (pos (suc n)) h = omega arith
some_divisor (negsuc n) h = omega arith

-- the same, where the second number is not 0
abbrev pub BoundsDivision : (Interval → Interval → Interval) → (ℤ → ℤ → ℤ) → Type 0
BoundsDivision f g = (i j : Interval) (a b : ℤ) → 0 < unsigned_abs b → Between i.low i.high a → Between j.low j.high b → Between (f i j).low (f i j).high (g a b)

integers_divided : (f : Interval → Interval → Interval) (g : ℤ → ℤ → ℤ) → BoundsDivision f g → (x y k : Kind) (v w : Value) →
    IsTrue (is_among x v) → IsTrue (is_among y w) → of_integers f x y ≡ Ok k → is_zero w ≡ false → Fits k (of_numbers_value g v w)
integers_divided f g bounds x y k v w h l e =
    of_two_integers f x y k v w (λ (p q : Value). is_zero q ≡ false → Fits k (of_numbers_value g p q)) h l e
    (λ i j a b m n d some. interval_fits (f i j) (g a b) k (bounds i j a b (some_divisor b some) m n) d)

pub divided_fits : (f : Interval → Interval → Interval) (g : ℤ → ℤ → ℤ) → BoundsDivision f g → (x y k : Kind) (v w : Value) →
    IsTrue (is_among x v) → IsTrue (is_among y w) → of_numbers f x y ≡ Ok k → is_zero w ≡ false → Fits k (of_numbers_value g v w)
divided_fits f g bounds (kind.Word s u) (kind.Word t m) k v w h l e some = words_fit g s u t m k v w h l e
divided_fits f g bounds x y k v w h l e some = integers_divided f g bounds x y k v w h l e some

-- `count`

same_length : (xs : List Operand) (vs : List Value) → AreOperands xs vs → length vs ≡ length xs
same_length [] [] h = refl
same_length [] (v ∷ vs) h = absurd h
same_length (x ∷ xs) [] h = absurd h
same_length (x ∷ xs) (v ∷ vs) h = ap suc (same_length xs vs h.1)

counted_if : (t : Bool) (n m : ℕ) (k : Kind) → m ≤ n → cond t (integers_in (interval (pos 0) (pos n))) mismatch ≡ Ok k → Fits k (integer (pos m))
counted_if true n m k h e = interval_fits (interval (pos 0) (pos n)) (pos m) k (omega (arith, ints), omega (arith, ints, h)) e
counted_if false n m k h e = absurd (mismatched k e)

pub counted_fits : (xs : List Operand) (vs : List Value) (k : Kind) → AreOperands xs vs → kind_of_count xs ≡ Ok k → Fits k (integer (pos (count_by is_true vs)))
counted_fits xs vs k h e =
    let few = count_by-le-length is_true vs in
    let long = same_length xs vs h in
    counted_if (list_all (λ (x : Operand). is_boolean x.kind) xs) (length xs) (count_by is_true vs) k (omega (arith, few, long)) e

-- words

integer_amount : (y : Kind) (w : Value) → is_integer y ≡ true → IsTrue (is_among y w) → (n : ℤ) × (amount w ≡ Some n)
integer_amount y w h l =
    let i = some_of (integers_of y) h in
    let a = integer_value y i.0 w i.1 l in
    (a.0, ap amount a.1)

amount_value : (y : Kind) (w : Value) → is_amount y ≡ true → IsTrue (is_among y w) → (n : ℤ) × (amount w ≡ Some n)
amount_value (kind.Word true m) w h l = absurd (false≢true h)
amount_value (kind.Word false m) w h l = let a = word_value false m w l in (pos a.0, ap amount a.1)
amount_value y w h l = integer_amount y w h l

pub shifted_fits : (o : Shift) (x y k : Kind) (v w : Value) → IsTrue (is_among x v) → IsTrue (is_among y w) → given (shifted x y) ≡ Ok k → Fits k (shifted_value o v w)
shifted_fits o (kind.Word s u) y k v w h l e =
    let is = kind_if_is (is_amount y) (kind.Word s u) k e in
    let a = word_value s u v h in
    let n = amount_value y w is.0 l in
    let P : Option ℤ → Type 0 = λ m. Fits k (shifted_by o s u a.0 m) in
    at_one (λ (p : Value). Fits k (shifted_value o p w)) v (value.Word s u a.0) a.1 (subst P (sym n.1) (word_fits s u k _ is.1))
shifted_fits o x y k v w h l e = absurd (mismatched k e)

word_in_fits_if : (b s : Bool) (w : ℕ) (k : Kind) (a : ℕ) → cond b (answer (kind.Word s w)) (Err rule.WordWidth) ≡ Ok k → Fits k (cond b (Some (value.Word s w a)) None)
word_in_fits_if true s w k a e = word_fits s w k a (answer_is (kind.Word s w) k e)
word_in_fits_if false s w k a e = absurd (refused rule.WordWidth k e)

word_in_fits : (s : Bool) (w : ℕ) (k : Kind) (z : ℤ) → word_in s w ≡ Ok k → Fits k (word_of s w z)
word_in_fits s w k z e = word_in_fits_if (is_width w) s w k _ e

pub concatenated_fits : (x y k : Kind) (v w : Value) → IsTrue (is_among x v) → IsTrue (is_among y w) → concatenated x y ≡ Ok k → Fits k (joined_value v w)
concatenated_fits (kind.Word s u) (kind.Word t m) k v w h l e =
    let a = word_value s u v h in
    let b = word_value t m w l in
    at_two (λ (p q : Value). Fits k (joined_value p q)) v (value.Word s u a.0) w (value.Word t m b.0) a.1 b.1 (word_in_fits false (u + m) k (pos (a.0 * 2 ^ m + b.0)) e)
concatenated_fits x y k v w h l e = absurd (mismatched k e)

pub with_sign_fits : (signed : Bool) (x k : Kind) (v : Value) → IsTrue (is_among x v) → given (with_sign signed x) ≡ Ok k → Fits k (value_with_sign signed v)
with_sign_fits signed (kind.Word s u) k v h e =
    let a = word_value s u v h in
    at_one (λ (p : Value). Fits k (value_with_sign signed p)) v (value.Word s u a.0) a.1 (word_fits signed u k a.0 (given_is (kind.Word signed u) k e))
with_sign_fits signed x k v h e = absurd (mismatched k e)

size_fits_if : (t : Bool) (i : Interval) (z : ℤ) (k : Kind) → is_in i z ≡ true → cond t (answer (integers i)) (Err rule.IntWidth) ≡ Ok k → Fits k (Some (value.Int z))
size_fits_if true i z k h e = fits_as (integers i) k (Some (value.Int z)) (answer_is (integers i) k e) h
size_fits_if false i z k h e = absurd (refused rule.IntWidth k e)

pub itself : (z : ℤ) → Between z z z
itself z = (omega (arith, ints), omega (arith, ints))

pub size_fits : (x k : Kind) (v : Value) → IsTrue (is_among x v) → size x ≡ Ok k → Fits k (size_of_value v)
size_fits (kind.Word s u) k v h e =
    let a = word_value s u v h in
    at_one (λ (p : Value). Fits k (size_of_value p)) v (value.Word s u a.0) a.1
    (size_fits_if (is_int (pos u) && is_int (pos u)) (interval (pos u) (pos u)) (pos u) k (between_test (pos u) (pos u) (pos u) (itself (pos u))) e)
size_fits x k v h e = absurd (mismatched k e)

pub to_word_fits : (x k : Kind) (v : Value) → IsTrue (is_among x v) → given (to_word x) ≡ Ok k → Fits k (to_word_value v)
to_word_fits kind.Boolean k v h e =
    let a = boolean_value v h in
    at_one (λ (p : Value). Fits k (to_word_value p)) v (value.Bool a.0) a.1 (word_fits false 1 k _ (given_is (kind.Word false 1) k e))
to_word_fits x k v h e = absurd (mismatched k e)

pub to_boolean_fits : (x k : Kind) (v : Value) → IsTrue (is_among x v) → given (to_boolean x) ≡ Ok k → Fits k (to_boolean_value v)
to_boolean_fits (kind.Word s u) k v h e =
    let a = word_value s u v h in
    at_one (λ (p : Value). Fits k (to_boolean_value p)) v (value.Word s u a.0) a.1 (boolean_fits (u == 1) k (a.0 == 1) e)
to_boolean_fits x k v h e = absurd (mismatched k e)

-- words and constants

record IsWordOf (f : Bool → ℕ → Given) (v : Value) (k : Kind) : Type 0 where
  sign : Bool
  width : ℕ
  bits : ℕ
  is : v ≡ value.Word sign width bits
  gives : f sign width ≡ Ok k

word_of_kind : (f : Bool → ℕ → Given) (x k : Kind) (v : Value) → IsTrue (is_among x v) → of_word f x ≡ Ok k → IsWordOf f v k
word_of_kind f (kind.Word s u) k v h e = let a = word_value s u v h in record { sign = s; width = u; bits = a.0; is = a.1; gives = e }
word_of_kind f x k v h e = absurd (mismatched k e)

pub among : (k : Kind) (v : Value) → IsTrue (is_of_kind k v) → IsTrue (is_among k v)
among k v h = (and_parts (is_value v) (is_among k v) h).1

-- the constant that is asked, and the value that it is
constant_is : (x : Operand) (v : Value) (f : Option ℤ → Given) (k : Kind) → IsOperand x v → (f None ≡ Ok k → ⊥) → f x.constant ≡ Ok k →
    (z : ℤ) × (v ≡ value.Int z) × (x.constant ≡ Some z) × (f (Some z) ≡ Ok k)
constant_is x v f k h none e = by x.constant refl e
  where
    by : (c : Option ℤ) → x.constant ≡ c → f c ≡ Ok k → (z : ℤ) × (v ≡ value.Int z) × (x.constant ≡ Some z) × (f (Some z) ≡ Ok k)
    by None i d = absurd (none d)
    by (Some z) i d = (z, h.constant z i, i, d)

pub extended_fits : (x n : Operand) (k : Kind) (v w : Value) → IsOperand x v → IsOperand n w → with_amount extended_by x n ≡ Ok k → Fits k (extended_value v w)
extended_fits x n k v w h l e =
    let f : Bool → ℕ → Given = λ s u. cond (is_set n.kind) mismatch (extended_by s u n.constant) in
    let a = word_of_kind f x.kind k v (among x.kind v h.kind) e in
    let g = unset_is (is_set n.kind) (extended_by a.sign a.width n.constant) k a.gives in
    let z = constant_is n w (extended_by a.sign a.width) k l (refused rule.NotConstant k) g in
    let is = asked_is (int_le (pos 0) z.0) (word_in a.sign (a.width + natural z.0)) rule.WordWidth k z.3 in
    at_two (λ (p q : Value). Fits k (extended_value p q)) v (value.Word a.sign a.width a.bits) w (value.Int z.0) a.is z.1
    (word_in_fits a.sign (a.width + natural z.0) k _ is.1)

pub resized_fits : (x n : Operand) (k : Kind) (v w : Value) → IsOperand x v → IsOperand n w → with_amount resized_to x n ≡ Ok k → Fits k (resized_value v w)
resized_fits x n k v w h l e =
    let f : Bool → ℕ → Given = λ s u. cond (is_set n.kind) mismatch (resized_to s u n.constant) in
    let a = word_of_kind f x.kind k v (among x.kind v h.kind) e in
    let g = unset_is (is_set n.kind) (resized_to a.sign a.width n.constant) k a.gives in
    let z = constant_is n w (resized_to a.sign a.width) k l (refused rule.NotConstant k) g in
    let is = asked_is (not a.sign || int_le (pos a.width) z.0) (word_in a.sign (natural z.0)) rule.WordWidth k z.3 in
    at_two (λ (p q : Value). Fits k (resized_value p q)) v (value.Word a.sign a.width a.bits) w (value.Int z.0) a.is z.1
    (word_in_fits a.sign (natural z.0) k _ is.1)

word_of_fits : (s : Bool) (u : ℕ) (k : Kind) (z : ℤ) → is_width u ≡ true → kind.Word s u ≡ k → Fits k (word_of s u z)
word_of_fits s u k z h e = word_if_fits (is_width u) s u k _ h e

constant_word_fits_at : (s : Bool) (z n : Operand) (k : Kind) (v w : Value) → IsOperand z v → IsOperand n w →
    constant_word_of s z.constant n.constant ≡ Ok k → Fits k (constant_value s v w)
constant_word_fits_at s z n k v w h l e =
    let b = constant_is n w (constant_word_of s z.constant) k l (refused rule.NotConstant k) e in
    let wide = asked_is (is_width (natural b.0)) (constant_within s (natural b.0) z.constant) rule.WordWidth k b.3 in
    let a = constant_is z v (constant_within s (natural b.0)) k h (refused rule.NotConstant k) wide.1 in
    let is = asked_is (is_within s (natural b.0) a.0) (answer (kind.Word s (natural b.0))) rule.WordWidth k a.3 in
    at_two (λ (p q : Value). Fits k (constant_value s p q)) v (value.Int a.0) w (value.Int b.0) a.1 b.1
    (word_of_fits s (natural b.0) k a.0 wide.0 (answer_is (kind.Word s (natural b.0)) k is.1))

pub constant_word_fits : (s : Bool) (z n : Operand) (k : Kind) (v w : Value) → IsOperand z v → IsOperand n w → constant_word s z n ≡ Ok k → Fits k (constant_value s v w)
constant_word_fits s z n k v w h l e =
    constant_word_fits_at s z n k v w h l (unset_is (is_set z.kind || is_set n.kind) (constant_word_of s z.constant n.constant) k e)

-- bits of a word are no more than it has
bits_width : (u : ℕ) (h l : ℤ) → is_width u ≡ true → (int_le (pos 0) l && int_le l h && int_lt h (pos u)) ≡ true → is_width (natural h - natural l + 1) ≡ true
bits_width u (pos h) (pos l) w e = grind arith
bits_width u (negsuc h) (pos l) w e = absurd (grind arith)
bits_width u h (negsuc l) w e = absurd (grind arith)

bits_fit : (u a : ℕ) (k : Kind) (h l : ℤ) → is_width u ≡ true → bits_from u (Some h) (Some l) ≡ Ok k → Fits k (bits_of_value u a h l)
bits_fit u a k h l w e = by (int_le (pos 0) l && int_le l h && int_lt h (pos u)) (bits_width u h l w) e
  where
    by : (b : Bool) → (b ≡ true → is_width (natural h - natural l + 1) ≡ true) →
        cond b (answer (kind.Word false (natural h - natural l + 1))) (Err rule.BadSelection) ≡ Ok k →
        Fits k (cond b (word_of false (natural h - natural l + 1) (pos (a / 2 ^ natural l))) None)
    by true f d = word_of_fits false (natural h - natural l + 1) k (pos (a / 2 ^ natural l)) (f refl) (answer_is (kind.Word false (natural h - natural l + 1)) k d)
    by false f d = absurd (refused rule.BadSelection k d)

word_width : (s : Bool) (u a : ℕ) (v : Value) → v ≡ value.Word s u a → IsTrue (is_value v) → is_width u ≡ true
word_width s u a v e h =
    let P : Value → Type 0 = λ p. IsTrue (is_value p) in
    let is : IsTrue (is_word u a) = subst P e h in
    (and_parts (is_width u) _ is).0

low_none : (u : ℕ) (c : Option ℤ) (k : Kind) → bits_from u c None ≡ Ok k → ⊥
low_none u None k e = refused rule.NotConstant k e
low_none u (Some z) k e = refused rule.NotConstant k e

high_none : (u : ℕ) (c : Option ℤ) (k : Kind) → bits_from u None c ≡ Ok k → ⊥
high_none u c k e = refused rule.NotConstant k e

pub selected_fits : (x h l : Operand) (k : Kind) (v w u : Value) → IsOperand x v → IsOperand h w → IsOperand l u → selected x h l ≡ Ok k → Fits k (selected_value v w u)
selected_fits x h l k v w u i m n e =
    let f : Bool → ℕ → Given = λ s t. cond (is_set h.kind || is_set l.kind) mismatch (bits_from t h.constant l.constant) in
    let a = word_of_kind f x.kind k v (among x.kind v i.kind) e in
    let g = unset_is (is_set h.kind || is_set l.kind) (bits_from a.width h.constant l.constant) k a.gives in
    let c = constant_is l u (bits_from a.width h.constant) k n (low_none a.width h.constant k) g in
    let b = constant_is h w (λ (z : Option ℤ). bits_from a.width z (Some c.0)) k m (high_none a.width (Some c.0) k) c.3 in
    let wide = word_width a.sign a.width a.bits v a.is (and_parts (is_value v) (is_among x.kind v) i.kind).0 in
    let P : Value → Type 0 = λ p. Fits k (selected_value v w p) in
    subst P (sym c.1) (at_two (λ (p q : Value). Fits k (selected_value p q (value.Int c.0))) v (value.Word a.sign a.width a.bits) w (value.Int b.0) a.is b.1
    (bits_fit a.width a.bits k b.0 c.0 wide b.3))
