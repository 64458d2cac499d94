-- Outcomes of operands of fitting kinds, and what operators give of them.
use Rattle.std.proofs.Common.{◌≡◌, ◌∙◌, Bool, true, false, ◌&&◌, cond, ◌⊎◌, inl, inr, Option, None, Some, Result, Ok, Err, List, [], ◌∷◌, ◌++◌, ℤ, refl, sym, ap, subst, append_assoc, append-nil}
use Rattle.std.specs.List.{list_all}
use Rattle.std.proofs.lemmas.Bool.{and_parts, false≢true}
use Rattle.smv_tree.specs.declared.place.Place.{Place}
use Rattle.smv_value.specs.declared.operator.Operator.{Operator}
use Rattle.smv_value.specs.declared.operator.Operator.TheVariants as operator
use Rattle.smv_value.specs.declared.value.Value.{Value}
use Rattle.smv_value.specs.declared.value.Value.TheVariants as value
use Rattle.smv_value.specs.declared.value.FaultRule.{FaultRule}
use Rattle.smv_value.specs.Results.{result_of}
use Rattle.smv_kinds.specs.declared.kind.Kind.{Kind}
use Rattle.smv_kinds.specs.declared.kind.Kind.TheVariants as kind
use Rattle.smv_kinds.specs.declared.kind.Operand.{Operand}
use Rattle.smv_kinds.specs.Constants.{are_integers, constant_given, constant_of_one, constant_of_two, integer_in, is_constant, value_in as value_of_result}
use Rattle.smv_kinds.specs.Kinds.{kind_given}
use Rattle.smv_kind_laws.specs.Values.{AreOperands, Gives, IsOperand, gives_value, is_of_kind}
use Rattle.smv_kind_laws.proofs.Giving.{values_given}
use Rattle.smv_kind_laws.proofs.Told.{constant_is_given}
use Rattle.smv_meaning.specs.declared.outcome.Evaluation.{Evaluation}
use Rattle.smv_meaning.specs.declared.outcome.Evaluation.TheVariants.{Fault, Nothing, Values}
use Rattle.smv_meaning.specs.Outcomes.{applied, given, one, operated}
use Rattle.smv_types.specs.Kinds.{has_values}
use Rattle.smv_types.proofs.Singles.{AllOne, IsOne, all_one, is_single}

-- values of this kind, or a fault; of a kind of single values, one
abbrev pub Fits : Kind → Evaluation → Type 0
Fits k (Fault rule place) = Unit {0}
Fits k Nothing = ⊥
Fits k (Values vs) = (list_all (is_of_kind k) vs ≡ true) × (is_single k ≡ true → (v : Value) × (vs ≡ v ∷ []))

-- so of the kind that is told; and the constant that is told
pub record Has (x : Operand) (o : Evaluation) : Type 0 where
  pub fits : Fits x.kind o
  pub constant : (z : ℤ) → x.constant ≡ Some z → o ≡ one (value.Int z)

-- so, where there is a kind that has values
abbrev pub Known : Operand → Evaluation → Type 0
Known x o = Has x o ⊎ ((has_values x.kind ≡ false) × (x.constant ≡ None))

abbrev pub AllKnown : List Operand → List Evaluation → Type 0
AllKnown [] [] = Unit {0}
AllKnown (x ∷ xs) (o ∷ os) = Known x o × AllKnown xs os
AllKnown xs os = ⊥

-- a fault, or one value of what is told
abbrev pub GivesOne : Operand → Evaluation → Type 0
GivesOne x o = ((rule : FaultRule) × (place : Place) × (o ≡ Fault rule place)) ⊎ ((v : Value) × (o ≡ one v) × IsOperand x v)

pub single_has : (k : Kind) → is_single k ≡ true → has_values k ≡ true
single_has kind.Boolean e = refl
single_has (kind.Word s w) e = refl
single_has (kind.Discrete d) e = refl
single_has k e = absurd (false≢true e)

true_false : (b : Bool) → b ≡ true → b ≡ false → ⊥
true_false b t f = false≢true (sym f ∙ t)

-- the only value
module _ (x : Operand) (vs : List Value) (v : Value) (is : vs ≡ v ∷ []) (all : list_all (is_of_kind x.kind) vs ≡ true)
    (constant : (z : ℤ) → x.constant ≡ Some z → Values vs ≡ one (value.Int z)) where
  only_kind : is_of_kind x.kind v ≡ true
  only_kind =
      let P : List Value → Type 0 = λ us. list_all (is_of_kind x.kind) us ≡ true in
      (and_parts (is_of_kind x.kind v) true (subst P is all)).0

  only_constant : (z : ℤ) → x.constant ≡ Some z → v ≡ value.Int z
  only_constant z e = let told : Values vs ≡ Values (value.Int z ∷ []) = constant z e in cc

  only_operand : IsOperand x v
  only_operand = record { kind = only_kind; constant = only_constant }

single_given : (x : Operand) (o : Evaluation) → Has x o → IsOne x → GivesOne x o
single_given x (Fault rule place) h i = inl (rule, place, refl)
single_given x Nothing h i = absurd h.fits
single_given x (Values vs) h (inl s) =
    let only = h.fits.1 s in
    inr (only.0, ap (λ us. Values us) only.1, only_operand x vs only.0 only.1 h.fits.0 h.constant)
single_given x (Values vs) h (inr c) =
    let is : Values vs ≡ Values (value.Int c.0 ∷ []) = h.constant c.0 c.1 in
    let same : vs ≡ value.Int c.0 ∷ [] = cc in
    inr (value.Int c.0, is, only_operand x vs (value.Int c.0) same h.fits.0 h.constant)

pub gives_one : (x : Operand) (o : Evaluation) → Known x o → IsOne x → GivesOne x o
gives_one x o (inl h) i = single_given x o h i
gives_one x o (inr n) (inl s) = absurd (true_false (has_values x.kind) (single_has x.kind s) n.0)
gives_one x o (inr n) (inr c) = absurd (let none : None ≡ Some c.0 = sym n.1 ∙ c.1 in cc)

-- operators over one value of each operand
module _ (k : Kind) (f : List Value → Evaluation) where
  pub operated_fits : (before : List Value) (xs : List Operand) (os : List Evaluation) → AllKnown xs os → AllOne xs →
      ((vs : List Value) → AreOperands xs vs → Fits k (f (before ++ vs))) → Fits k (operated f before os)
  operated_fits before [] [] h a each = let P : List Value → Type 0 = λ vs. Fits k (f vs) in subst P (append-nil before) (each [] tt)
  operated_fits before [] (o ∷ os) h a each = absurd h
  operated_fits before (x ∷ xs) [] h a each = absurd h
  operated_fits before (x ∷ xs) (o ∷ os) h a each = elim (gives_one x o h.0 a.0) [
    | inl i ↦ let P : Evaluation → Type 0 = λ y. Fits k (operated f before (y ∷ os)) in subst P (sym i.2) tt
    | inr i ↦
        let P : Evaluation → Type 0 = λ y. Fits k (operated f before (y ∷ os)) in
        let Q : List Value → Type 0 = λ vs. Fits k (f vs) in
        subst P (sym i.1) (operated_fits (before ++ i.0 ∷ []) xs os h.1 a.1 (λ vs b. subst Q (sym (append_assoc before (i.0 ∷ []) vs)) (each (i.0 ∷ vs) (i.2, b))))
  ]

given_fits : (k : Kind) (place : Place) (r : Result (Option Value) FaultRule) → Gives k r → Fits k (given place r)
given_fits k place (Ok (Some v)) h = (rw h refl, λ s. (v, refl))
given_fits k place (Ok None) h = absurd h
given_fits k place (Err rule) h = tt

applied_is : (o : Operator) (place : Place) (os : List Evaluation) → gives_value o ≡ true → applied o place os ≡ operated (λ vs. given place (result_of o vs)) [] os
applied_is (operator.Choice rule) place os g = absurd (false≢true g)
applied_is operator.Members place os g = absurd (false≢true g)
applied_is operator.Union place os g = absurd (false≢true g)
applied_is operator.Range place os g = absurd (false≢true g)
applied_is operator.In place os g = absurd (false≢true g)
applied_is other place os g = refl

-- what gives one value gives one of its kind, or faults
pub value_fits : (o : Operator) (place : Place) (xs : List Operand) (os : List Evaluation) (k : Kind) → gives_value o ≡ true → AllKnown xs os → kind_given o xs ≡ Ok k → Fits k (applied o place os)
value_fits o place xs os k g h e =
    let P : Evaluation → Type 0 = λ y. Fits k y in
    subst P (sym (applied_is o place os g))
    (operated_fits k (λ vs. given place (result_of o vs)) [] xs os h (all_one o xs k g e) (λ vs a. given_fits k place (result_of o vs) (values_given o xs vs k g a e)))

-- constants

none_some : {A : Type 0} (z : ℤ) → None ≡ Some z → A
none_some z e = cc

integer_if : (b c : Bool) (x : Option Value) (z : ℤ) → integer_in (cond (b && c) x None) ≡ Some z → b ≡ true
integer_if true c x z e = refl
integer_if false c x z e = none_some z e

constant_operator : (o : Operator) (xs : List Operand) (z : ℤ) → constant_given o xs ≡ Some z → is_constant o ≡ true
constant_operator o [] z e = none_some z e
constant_operator o (x ∷ []) z e = one_by x.constant e
  where
    one_by : (c : Option ℤ) → constant_of_one o c ≡ Some z → is_constant o ≡ true
    one_by None f = none_some z f
    one_by (Some a) f = integer_if (is_constant o) (are_integers (value.Int a ∷ [])) (value_of_result (result_of o (value.Int a ∷ []))) z f
constant_operator o (x ∷ y ∷ []) z e = two_by x.constant y.constant e
  where
    two_by : (c d : Option ℤ) → constant_of_two o c d ≡ Some z → is_constant o ≡ true
    two_by None d f = none_some z f
    two_by (Some a) None f = none_some z f
    two_by (Some a) (Some b) f = integer_if (is_constant o) (are_integers (value.Int a ∷ value.Int b ∷ [])) (value_of_result (result_of o (value.Int a ∷ value.Int b ∷ []))) z f
constant_operator o (x ∷ y ∷ t ∷ xs) z e = none_some z e

-- other operators give no constant
pub not_constant : (o : Operator) (xs : List Operand) → is_constant o ≡ false → constant_given o xs ≡ None
not_constant o xs plain = by (constant_given o xs) refl
  where
    by : (c : Option ℤ) → constant_given o xs ≡ c → c ≡ None
    by None e = refl
    by (Some z) e = absurd (true_false (is_constant o) (constant_operator o xs z e) plain)

-- what is told to be a constant is one
constant_has : (x : Operand) (o : Evaluation) (z : ℤ) → Known x o → x.constant ≡ Some z → (o ≡ one (value.Int z)) × IsOperand x (value.Int z)
constant_has x o z (inr n) e = none_some z (sym n.1 ∙ e)
constant_has x o z (inl h) e =
    let is = h.constant z e in
    let P : Evaluation → Type 0 = λ y. Fits x.kind y in
    let fits = subst P is h.fits in (
      is,
      record { kind = (and_parts (is_of_kind x.kind (value.Int z)) true fits.0).0; constant = λ y f. let same : Some z ≡ Some y = sym e ∙ f in cc },
    )

given_constant : (place : Place) (r : Result (Option Value) FaultRule) (z : ℤ) → r ≡ Ok (Some (value.Int z)) → given place r ≡ one (value.Int z)
given_constant place r z e = ap (given place) e

abbrev Evaluates : Operator → Place → List Evaluation → Evaluation
Evaluates o place os = operated (λ vs. given place (result_of o vs)) [] os

one_constant : (o : Operator) (place : Place) (x : Operand) (a : Evaluation) (z : ℤ) (c : Option ℤ) → x.constant ≡ c → Known x a → constant_given o (x ∷ []) ≡ Some z →
    constant_of_one o c ≡ Some z → Evaluates o place (a ∷ []) ≡ one (value.Int z)
one_constant o place x a z None i h e f = none_some z f
one_constant o place x a z (Some y) i h e f =
    let p = constant_has x a y h i in
    ap (λ b. Evaluates o place (b ∷ [])) p.0 ∙ given_constant place (result_of o (value.Int y ∷ [])) z (constant_is_given o (x ∷ []) (value.Int y ∷ []) z (p.1, tt) e)

two_constants : (o : Operator) (place : Place) (x y : Operand) (a b : Evaluation) (z : ℤ) (c d : Option ℤ) → x.constant ≡ c → y.constant ≡ d → Known x a → Known y b →
    constant_given o (x ∷ y ∷ []) ≡ Some z → constant_of_two o c d ≡ Some z → Evaluates o place (a ∷ b ∷ []) ≡ one (value.Int z)
two_constants o place x y a b z None d i j h l e f = none_some z f
two_constants o place x y a b z (Some m) None i j h l e f = none_some z f
two_constants o place x y a b z (Some m) (Some n) i j h l e f =
    let p = constant_has x a m h i in
    let q = constant_has y b n l j in
    ap (λ u. Evaluates o place (u ∷ b ∷ [])) p.0 ∙ ap (λ u. Evaluates o place (one (value.Int m) ∷ u ∷ [])) q.0
    ∙ given_constant place (result_of o (value.Int m ∷ value.Int n ∷ [])) z (constant_is_given o (x ∷ y ∷ []) (value.Int m ∷ value.Int n ∷ []) z (p.1, (q.1, tt)) e)

evaluates_constant : (o : Operator) (place : Place) (xs : List Operand) (os : List Evaluation) (z : ℤ) → AllKnown xs os → constant_given o xs ≡ Some z → Evaluates o place os ≡ one (value.Int z)
evaluates_constant o place [] os z h e = none_some z e
evaluates_constant o place (x ∷ []) [] z h e = absurd h
evaluates_constant o place (x ∷ []) (a ∷ []) z h e = one_constant o place x a z x.constant refl h.0 e e
evaluates_constant o place (x ∷ []) (a ∷ b ∷ os) z h e = absurd h.1
evaluates_constant o place (x ∷ y ∷ []) [] z h e = absurd h
evaluates_constant o place (x ∷ y ∷ []) (a ∷ []) z h e = absurd h.1
evaluates_constant o place (x ∷ y ∷ []) (a ∷ b ∷ []) z h e = two_constants o place x y a b z x.constant y.constant refl refl h.0 h.1.0 e e
evaluates_constant o place (x ∷ y ∷ []) (a ∷ b ∷ c ∷ os) z h e = absurd h.1.1
evaluates_constant o place (x ∷ y ∷ t ∷ xs) os z h e = none_some z e

constant_value : (o : Operator) → is_constant o ≡ true → gives_value o ≡ true
constant_value operator.Negate e = refl
constant_value (operator.Arithmetic o) e = refl
constant_value (operator.Division o) e = refl
constant_value operator.Subscript e = refl
constant_value other e = absurd (false≢true e)

-- an operator that is told to give a constant gives it
pub constant_fits : (o : Operator) (place : Place) (xs : List Operand) (os : List Evaluation) (z : ℤ) → AllKnown xs os → constant_given o xs ≡ Some z → applied o place os ≡ one (value.Int z)
constant_fits o place xs os z h e = applied_is o place os (constant_value o (constant_operator o xs z e)) ∙ evaluates_constant o place xs os z h e
