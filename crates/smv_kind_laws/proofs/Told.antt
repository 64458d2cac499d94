-- Constants are the values of their expressions, and what the table gives of formulas and arrays.
use Rattle.std.proofs.Common.{◌≡◌, ℕ, IsTrue, Bool, true, false, ◌&&◌, cond, Option, None, Some, Ok, Err, List, [], ◌∷◌, ℤ, refl, sym, ap, ◌∙◌}
use Rattle.std.specs.Prelude.{Result}
use Rattle.std.proofs.lemmas.Bool.{and_from, false≢true}
use Rattle.smv_value.specs.declared.operator.Operator.{Operator}
use Rattle.smv_value.specs.declared.value.Value.{Value}
use Rattle.smv_value.specs.declared.value.Value.TheVariants as value
use Rattle.smv_value.specs.declared.value.FaultRule.{FaultRule}
use Rattle.smv_value.specs.Results.{is_int, is_value, result_of}
use Rattle.smv_kinds.specs.declared.kind.Kind.{Kind}
use Rattle.smv_kinds.specs.declared.kind.Kind.TheVariants as kind
use Rattle.smv_kinds.specs.declared.kind.Operand.{Operand}
use Rattle.smv_kinds.specs.Constants.{are_integers, constant_given, constant_of, constant_of_one, constant_of_two, integer_in, is_constant, value_in}
use Rattle.smv_kinds.specs.Intervals.{interval}
use Rattle.smv_kinds.specs.Kinds.{boolean_if, booleans, given, indexed, integers, is_integer, kind_if, kind_of_value, next_kind, takes, two, whole_array}
use Rattle.smv_kind_laws.specs.Values.{AreOperands, IsOperand, is_among, is_of_kind}
use Rattle.smv_kind_laws.proofs.Between.{between_test}
use Rattle.smv_kind_laws.proofs.Fitting.{answer_is, alike_self, itself, kind_if_is, mismatched}

-- constants

constant_at : (b : Bool) (r : Result (Option Value) FaultRule) (v : Value) → cond b (value_in r) None ≡ Some v → r ≡ Ok (Some v)
constant_at true (Ok x) v e = ap (λ (y : Option Value). Ok y) e
constant_at true (Err f) v e = absurd (let l : None ≡ Some v = e in cc)
constant_at false r v e = absurd (let l : None ≡ Some v = e in cc)

pub constant_is_value : (o : Operator) (vs : List Value) (v : Value) → constant_of o vs ≡ Some v → result_of o vs ≡ Ok (Some v)
constant_is_value o vs v e = constant_at (is_constant o && are_integers vs) (result_of o vs) v e

integer_at : (x : Option Value) (z : ℤ) → integer_in x ≡ Some z → x ≡ Some (value.Int z)
integer_at None z e = absurd (let l : None ≡ Some z = e in cc)
integer_at (Some (value.Bool b)) z e = absurd (let l : None ≡ Some z = e in cc)
integer_at (Some (value.Int y)) z e = let l : Some y ≡ Some z = e in cc
integer_at (Some (value.Sym n)) z e = absurd (let l : None ≡ Some z = e in cc)
integer_at (Some (value.Word s w a)) z e = absurd (let l : None ≡ Some z = e in cc)

one_constant : (o : Operator) (x : Operand) (v : Value) (z : ℤ) (c : Option ℤ) → x.constant ≡ c → IsOperand x v → constant_of_one o c ≡ Some z → result_of o (v ∷ []) ≡ Ok (Some (value.Int z))
one_constant o x v z None i h e = absurd (let l : None ≡ Some z = e in cc)
one_constant o x v z (Some a) i h e =
    let is : v ≡ value.Int a = h.constant a i in
    ap (λ (u : Value). result_of o (u ∷ [])) is ∙ constant_is_value o (value.Int a ∷ []) (value.Int z) (integer_at (constant_of o (value.Int a ∷ [])) z e)

two_constants : (o : Operator) (x y : Operand) (v w : Value) (z : ℤ) (c d : Option ℤ) → x.constant ≡ c → y.constant ≡ d → IsOperand x v → IsOperand y w →
    constant_of_two o c d ≡ Some z → result_of o (v ∷ w ∷ []) ≡ Ok (Some (value.Int z))
two_constants o x y v w z None d i j h l e = absurd (let m : None ≡ Some z = e in cc)
two_constants o x y v w z (Some a) None i j h l e = absurd (let m : None ≡ Some z = e in cc)
two_constants o x y v w z (Some a) (Some b) i j h l e =
    let left : v ≡ value.Int a = h.constant a i in
    let right : w ≡ value.Int b = l.constant b j in
    ap (λ (u : Value). result_of o (u ∷ w ∷ [])) left ∙ (ap (λ (u : Value). result_of o (value.Int a ∷ u ∷ [])) right ∙
    constant_is_value o (value.Int a ∷ value.Int b ∷ []) (value.Int z) (integer_at (constant_of o (value.Int a ∷ value.Int b ∷ [])) z e))

pub constant_is_given : (o : Operator) (xs : List Operand) (vs : List Value) (z : ℤ) → AreOperands xs vs → constant_given o xs ≡ Some z → result_of o vs ≡ Ok (Some (value.Int z))
constant_is_given o [] vs z h e = absurd (let l : None ≡ Some z = e in cc)
constant_is_given o (x ∷ []) [] z h e = absurd h
constant_is_given o (x ∷ []) (v ∷ []) z h e = one_constant o x v z x.constant refl h.0 e
constant_is_given o (x ∷ []) (v ∷ w ∷ vs) z h e = absurd h.1
constant_is_given o (x ∷ y ∷ []) [] z h e = absurd h
constant_is_given o (x ∷ y ∷ []) (v ∷ []) z h e = absurd h.1
constant_is_given o (x ∷ y ∷ []) (v ∷ w ∷ []) z h e = two_constants o x y v w z x.constant y.constant refl refl h.0 h.1.0 e
constant_is_given o (x ∷ y ∷ []) (v ∷ w ∷ u ∷ vs) z h e = absurd h.1.1
constant_is_given o (x ∷ y ∷ t ∷ xs) vs z h e = absurd (let l : None ≡ Some z = e in cc)

-- one value

integer_of_kind : (b : Bool) (z : ℤ) → is_int z ≡ b → is_int z ≡ true → is_among (kind_if b (integers (interval z z))) (value.Int z) ≡ true
integer_of_kind true z i h = between_test z z z (itself z)
integer_of_kind false z i h = absurd (false≢true (sym i ∙ h))

among_own : (v : Value) → is_value v ≡ true → is_among (kind_of_value v) v ≡ true
among_own (value.Bool b) h = refl
among_own (value.Int z) h = integer_of_kind (is_int z) z refl h
among_own (value.Sym n) h = refl
among_own (value.Word s w a) h = alike_self s w

pub value_has_kind : (v : Value) → IsTrue (is_value v) → IsTrue (is_of_kind (kind_of_value v) v)
value_has_kind v h = and_from (is_value v) (is_among (kind_of_value v) v) h (among_own v h)

-- formulas and arrays

pub sought_is_boolean : (xs : List Operand) (k : Kind) → two (λ a b. given (boolean_if (takes a b))) xs ≡ Ok k → k ≡ kind.Boolean
sought_is_boolean [] k e = absurd (mismatched k e)
sought_is_boolean (x ∷ []) k e = absurd (mismatched k e)
sought_is_boolean (x ∷ y ∷ []) k e = sym (kind_if_is (takes x.kind y.kind) kind.Boolean k e).1
sought_is_boolean (x ∷ y ∷ z ∷ xs) k e = absurd (mismatched k e)

pub formula_is_boolean : (count : ℕ) (xs : List Operand) (k : Kind) → given (booleans count xs) ≡ Ok k → k ≡ kind.Boolean
formula_is_boolean count xs k e = sym (kind_if_is _ kind.Boolean k e).1

indexed_kind : (a i k : Kind) → given (indexed a i) ≡ Ok k → k ≡ kind.Array
indexed_kind kind.Array i k e = sym (kind_if_is (is_integer i) kind.Array k e).1
indexed_kind a i k e = absurd (mismatched k e)

pub indexed_is_array : (xs : List Operand) (k : Kind) → two (λ a i. given (indexed a i)) xs ≡ Ok k → k ≡ kind.Array
indexed_is_array [] k e = absurd (mismatched k e)
indexed_is_array (x ∷ []) k e = absurd (mismatched k e)
indexed_is_array (x ∷ i ∷ []) k e = indexed_kind x.kind i.kind k e
indexed_is_array (x ∷ i ∷ z ∷ xs) k e = absurd (mismatched k e)

pub whole_is_array : (xs : List Operand) (k : Kind) → whole_array xs ≡ Ok k → k ≡ kind.Array
whole_is_array [] k e = sym (answer_is kind.Array k e)
whole_is_array (x ∷ xs) k e = absurd (mismatched k e)

pub next_is_same : (j k : Kind) → next_kind j ≡ Ok k → j ≡ k
next_is_same kind.Boolean k e = answer_is kind.Boolean k e
next_is_same (kind.Word s w) k e = answer_is (kind.Word s w) k e
next_is_same (kind.Discrete d) k e = answer_is (kind.Discrete d) k e
next_is_same j k e = absurd (mismatched k e)
