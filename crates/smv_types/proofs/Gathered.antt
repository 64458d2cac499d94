-- Sets, membership and choices over operands of fitting kinds.
use Rattle.std.proofs.Common.{◌≡◌, ◌∙◌, ℕ, zero, suc, IsTrue, Bool, true, false, ◌&&◌, inl, inr, Option, None, Some, Ok, List, [], ◌∷◌, ◌++◌, ℤ, pos, negsuc, ◌+ℤ◌, ◌-ℤ◌, ◌≤ℤ◌, ◌<ℤ◌, refl, sym, ap, subst, arith}
use Rattle.std.specs.Prelude.{is_some}
use Rattle.std.specs.List.{fold, list_all, list_any}
use Rattle.std.proofs.lemmas.Bool.{and_parts, false≢true}
use Rattle.std.proofs.lemmas.Int.{ints}
use Rattle.std.proofs.lemmas.List.Folds.{list_all-append}
use Rattle.smv_tree.specs.declared.place.Place.{Place}
use Rattle.smv_value.specs.declared.operator.Operator.{Operator}
use Rattle.smv_value.specs.declared.operator.Operator.TheVariants as operator
use Rattle.smv_value.specs.declared.value.FaultRule.{FaultRule}
use Rattle.smv_value.specs.declared.value.Value.{Value}
use Rattle.smv_value.specs.declared.value.Value.TheVariants as value
use Rattle.smv_value.specs.Results.{alike, natural, same}
use Rattle.smv_kinds.specs.declared.kind.Interval.{Interval}
use Rattle.smv_kinds.specs.declared.kind.Kind.{Kind}
use Rattle.smv_kinds.specs.declared.kind.Kind.TheVariants as kind
use Rattle.smv_kinds.specs.declared.kind.Operand.{Operand}
use Rattle.smv_kinds.specs.Kinds.{boolean_if, branch, chosen, chosen_after, given, indexed, integers_of, is_boolean, is_integer, joined, kind_given, kind_if, members, range_of, ranged, set_of, takes, two, whole_array}
use Rattle.smv_kinds.specs.Constants.{constant_given}
use Rattle.smv_kind_laws.specs.Values.{HasAll, IsOperand, branches, is_among, is_of_kind}
use Rattle.smv_kind_laws.proofs.Fitting.{among, given_is, integer_value, kind_if_is, mismatched}
use Rattle.smv_kind_laws.proofs.Members.{all_branches, all_members, range_has}
use Rattle.value_sets.specs.Members.{counted_up, run}
use Rattle.smv_meaning.specs.declared.outcome.Evaluation.{Evaluation}
use Rattle.smv_meaning.specs.declared.outcome.Evaluation.TheVariants.{Fault, Nothing, Values}
use Rattle.smv_meaning.specs.Formulas.{is_temporal}
use Rattle.smv_meaning.specs.Outcomes.{applied, choice, included, one, ranged as ranged_outcome, two as two_outcomes, united}
use Rattle.smv_types.specs.Kinds.{has_values, kind_in}
use Rattle.smv_types.proofs.Singles.{integer_single, is_single}
use Rattle.smv_types.proofs.Evaluated.{AllKnown, Fits, Known, gives_one, not_constant, value_fits}

both_hold : (a b : Bool) → a ≡ true → b ≡ true → (a && b) ≡ true
both_hold a b e f = rw (e, f) refl

true_false : (b : Bool) → b ≡ true → b ≡ false → ⊥
true_false b t f = false≢true (sym f ∙ t)

-- what is of one kind is of the other
abbrev pub Into : Kind → Kind → Type 0
Into a k = (v : Value) → IsTrue (is_of_kind a v) → IsTrue (is_of_kind k v)

all_into : (a k : Kind) → Into a k → (vs : List Value) → list_all (is_of_kind a) vs ≡ true → list_all (is_of_kind k) vs ≡ true
all_into a k into [] h = refl
all_into a k into (v ∷ vs) h =
    let p = and_parts (is_of_kind a v) (list_all (is_of_kind a) vs) h in
    both_hold (is_of_kind k v) (list_all (is_of_kind k) vs) (into v p.0) (all_into a k into vs p.1)

-- sets

-- each has a kind with values
abbrev AllValued : List Operand → Type 0
AllValued [] = Unit {0}
AllValued (x ∷ xs) = (has_values x.kind ≡ true) × AllValued xs

united_fits : (k : Kind) → is_single k ≡ false → (before : List Value) (xs : List Operand) (os : List Evaluation) → AllKnown xs os → HasAll k xs → AllValued xs →
    list_all (is_of_kind k) before ≡ true → Fits k (united before os)
united_fits k many before [] [] h all valued so_far = (so_far, λ s. absurd (true_false (is_single k) s many))
united_fits k many before [] (o ∷ os) h all valued so_far = absurd h
united_fits k many before (x ∷ xs) [] h all valued so_far = absurd h
united_fits k many before (x ∷ xs) (Fault rule place ∷ os) h all valued so_far = tt
united_fits k many before (x ∷ xs) (Nothing ∷ os) h all valued so_far = elim h.0 [
  | inl i ↦ absurd i.fits
  | inr i ↦ absurd (true_false (has_values x.kind) valued.0 i.0)
]
united_fits k many before (x ∷ xs) (Values ws ∷ os) h all valued so_far = elim h.0 [
  | inl i ↦
      let more = list_all-append (is_of_kind k) before ws ∙ both_hold _ _ so_far (all_into x.kind k all.0 ws i.fits.0) in
      united_fits k many (before ++ ws) xs os h.1 all.1 valued.1 more
  | inr i ↦ absurd (true_false (has_values x.kind) valued.0 i.0)
]

abbrev BothValued : Kind → Kind → Type 0
BothValued a b = (has_values a ≡ true) × (has_values b ≡ true)

-- what is joined has values
joined_valued : (a b : Kind) → has_values (joined a b) ≡ true → BothValued a b
joined_valued kind.Boolean kind.Boolean e = (refl, refl)
joined_valued kind.Boolean kind.BooleanSet e = (refl, refl)
joined_valued kind.BooleanSet kind.Boolean e = (refl, refl)
joined_valued kind.BooleanSet kind.BooleanSet e = (refl, refl)
joined_valued (kind.Word s w) (kind.Word t v) e = (refl, refl)
joined_valued (kind.Discrete d) (kind.Discrete c) e = (refl, refl)
joined_valued (kind.Discrete d) (kind.DiscreteSet c) e = (refl, refl)
joined_valued (kind.DiscreteSet d) (kind.Discrete c) e = (refl, refl)
joined_valued (kind.DiscreteSet d) (kind.DiscreteSet c) e = (refl, refl)
joined_valued a b e = absurd (false≢true e)

set_valued : (a : Kind) → has_values (set_of a) ≡ true → has_values a ≡ true
set_valued kind.Boolean e = refl
set_valued kind.BooleanSet e = refl
set_valued (kind.Discrete d) e = refl
set_valued (kind.DiscreteSet d) e = refl
set_valued a e = absurd (false≢true e)

abbrev with_member : Kind → Operand → Kind
with_member k y = joined k (set_of y.kind)

fold_valued : (xs : List Operand) (j : Kind) → has_values (fold with_member j xs) ≡ true → (has_values j ≡ true) × AllValued xs
fold_valued [] j e = (e, tt)
fold_valued (x ∷ xs) j e =
    let rest = fold_valued xs (with_member j x) e in
    let here = joined_valued j (set_of x.kind) rest.0 in
    (here.0, (set_valued x.kind here.1, rest.1))

set_many : (a : Kind) → is_single (set_of a) ≡ false
set_many kind.Boolean = refl
set_many kind.BooleanSet = refl
set_many (kind.Discrete d) = refl
set_many (kind.DiscreteSet d) = refl
set_many a = refl

joined_many : (a b : Kind) → is_single a ≡ false → is_single (joined a b) ≡ false
joined_many kind.Boolean b e = absurd (let no : ⊥ = cc in no)
joined_many (kind.Word s w) b e = absurd (let no : ⊥ = cc in no)
joined_many (kind.Discrete d) b e = absurd (let no : ⊥ = cc in no)
joined_many kind.BooleanSet kind.Boolean e = refl
joined_many kind.BooleanSet kind.BooleanSet e = refl
joined_many kind.BooleanSet b e = refl
joined_many (kind.DiscreteSet d) (kind.Discrete c) e = refl
joined_many (kind.DiscreteSet d) (kind.DiscreteSet c) e = refl
joined_many (kind.DiscreteSet d) b e = refl
joined_many a b e = refl

fold_many : (xs : List Operand) (j : Kind) → is_single j ≡ false → is_single (fold with_member j xs) ≡ false
fold_many [] j e = e
fold_many (x ∷ xs) j e = fold_many xs (with_member j x) (joined_many j (set_of x.kind) e)

-- no array and no instance
settled : Kind → Bool
settled kind.Array = false
settled kind.Instance = false
settled other = true

given_settled : (j k : Kind) → settled j ≡ true → given j ≡ Ok k → has_values j ≡ true
unfolding settled
given_settled kind.Array k s e = absurd (false≢true s)
given_settled kind.Instance k s e = absurd (false≢true s)
given_settled kind.Nothing k s e = absurd (mismatched k e)
given_settled j k s e = refl

settled_if : (b : Bool) (k : Kind) → settled k ≡ true → settled (kind_if b k) ≡ true
unfolding settled
settled_if true k s = s
settled_if false k s = refl

set_settled : (a : Kind) → settled (set_of a) ≡ true
unfolding settled
set_settled kind.Boolean = refl
set_settled kind.BooleanSet = refl
set_settled (kind.Discrete d) = refl
set_settled (kind.DiscreteSet d) = refl
set_settled a = refl

joined_settled : (a b : Kind) → settled (joined a b) ≡ true
unfolding settled
joined_settled kind.Boolean kind.Boolean = refl
joined_settled kind.Boolean kind.BooleanSet = refl
joined_settled kind.BooleanSet kind.Boolean = refl
joined_settled kind.BooleanSet kind.BooleanSet = refl
joined_settled (kind.Word s w) (kind.Word t v) = settled_if (alike s w t v) (kind.Word s w) refl
joined_settled (kind.Discrete d) (kind.Discrete c) = refl
joined_settled (kind.Discrete d) (kind.DiscreteSet c) = refl
joined_settled (kind.DiscreteSet d) (kind.Discrete c) = refl
joined_settled (kind.DiscreteSet d) (kind.DiscreteSet c) = refl
joined_settled a b = refl

fold_settled : (xs : List Operand) (j : Kind) → settled j ≡ true → settled (fold with_member j xs) ≡ true
fold_settled [] j s = s
fold_settled (x ∷ xs) j s = fold_settled xs (with_member j x) (joined_settled j (set_of x.kind))

members_fit : (xs : List Operand) (os : List Evaluation) (k : Kind) → AllKnown xs os → given (members xs) ≡ Ok k → Fits k (united [] os)
members_fit [] os k h e = absurd (mismatched k e)
members_fit (x ∷ xs) os k h e =
    let j = fold with_member (set_of x.kind) xs in
    let valued = fold_valued xs (set_of x.kind) (given_settled j k (fold_settled xs (set_of x.kind) (set_settled x.kind)) e) in
    let many : is_single k ≡ false = ap is_single (sym (given_is j k e)) ∙ fold_many xs (set_of x.kind) (set_many x.kind) in
    united_fits k many [] (x ∷ xs) os h (all_members (x ∷ xs) k e) (set_valued x.kind valued.0, valued.1) refl

union_fits : (xs : List Operand) (os : List Evaluation) (k : Kind) → AllKnown xs os → two (λ a b. given (joined (set_of a) (set_of b))) xs ≡ Ok k → Fits k (united [] os)
union_fits [] os k h e = absurd (mismatched k e)
union_fits (x ∷ []) os k h e = absurd (mismatched k e)
union_fits (x ∷ y ∷ []) os k h e = members_fit (x ∷ y ∷ []) os k h e
union_fits (x ∷ y ∷ z ∷ xs) os k h e = absurd (mismatched k e)

-- ranges

counted_all : (p : Value → Bool) (n : ℕ) (a : ℤ) → ((z : ℤ) → a ≤ℤ z → z <ℤ (a +ℤ pos n) → p (value.Int z) ≡ true) → list_all p (counted_up a n) ≡ true
counted_all p zero a each = refl
counted_all p (suc n) a each =
    both_hold (p (value.Int a)) (list_all p (counted_up (a +ℤ pos 1) n)) (each a (omega (arith, ints)) (omega (arith, ints)))
    (counted_all p n (a +ℤ pos 1) (λ z low high. each z (omega (arith, ints, low)) (omega (arith, ints, high))))

run_all : (p : Value → Bool) (a b : ℤ) → ((z : ℤ) → a ≤ℤ z → z ≤ℤ b → p (value.Int z) ≡ true) → list_all p (run a b) ≡ true
run_all p a b each = by (b +ℤ pos 1 -ℤ a) refl
  where
    by : (d : ℤ) → b +ℤ pos 1 -ℤ a ≡ d → list_all p (counted_up a (natural d)) ≡ true
    by (pos n) e = counted_all p n a (λ z low high. each z low (omega (arith, ints, e, high)))
    by (negsuc n) e = refl

some_of : (o : Option Interval) → is_some o ≡ true → (i : Interval) × (o ≡ Some i)
some_of None e = absurd (false≢true e)
some_of (Some i) e = (i, refl)

-- an integer of what is told as integers
integer_of : (x : Operand) (v : Value) → is_integer x.kind ≡ true → IsOperand x v → (z : ℤ) × (v ≡ value.Int z)
integer_of x v e h =
    let i = some_of (integers_of x.kind) e in
    let z = integer_value x.kind i.0 v i.1 (among x.kind v h.kind) in
    (z.0, z.1)

range_some : (o p : Option Interval) (k : Kind) → given (range_of o p) ≡ Ok k → (is_some o ≡ true) × (is_some p ≡ true) × (is_single k ≡ false)
range_some None p k e = absurd (mismatched k e)
range_some (Some i) None k e = absurd (mismatched k e)
range_some (Some i) (Some j) k e = (refl, refl, ap is_single (sym (given_is (range_of (Some i) (Some j)) k e)))

range_fits_two : (x y : Operand) (a b : Evaluation) (k : Kind) → Known x a → Known y b → given (ranged x.kind y.kind) ≡ Ok k → Fits k (ranged_outcome a b)
range_fits_two x y a b k h l e =
    let some = range_some (integers_of x.kind) (integers_of y.kind) k e in
    let P : Evaluation → Type 0 = λ o. Fits k (ranged_outcome o b) in
    elim (gives_one x a h (inl (integer_single x.kind some.0))) [
      | inl i ↦ subst P (sym i.2) tt
      | inr i ↦
          let left = integer_of x i.0 some.0 i.2 in
          let is : a ≡ one (value.Int left.0) = i.1 ∙ ap one left.1 in
          let Q : Evaluation → Type 0 = λ o. Fits k (ranged_outcome (one (value.Int left.0)) o) in
          subst P (sym is)
          (elim (gives_one y b l (inl (integer_single y.kind some.1))) [
            | inl j ↦ subst Q (sym j.2) tt
            | inr j ↦
                let right = integer_of y j.0 some.1 j.2 in
                let also : b ≡ one (value.Int right.0) = j.1 ∙ ap one right.1 in
                let X : Value → Type 0 = λ v. IsTrue (is_of_kind x.kind v) in
                let Y : Value → Type 0 = λ v. IsTrue (is_of_kind y.kind v) in
                let inside = λ (z : ℤ) (low : left.0 ≤ℤ z) (high : z ≤ℤ right.0). range_has x.kind y.kind k left.0 right.0 z (subst X left.1 i.2.kind) (subst Y right.1 j.2.kind) low high e in
                subst Q (sym also) (run_all (is_of_kind k) left.0 right.0 inside, λ s. absurd (true_false (is_single k) s some.2))
          ])
    ]

range_fits : (xs : List Operand) (os : List Evaluation) (k : Kind) → AllKnown xs os → two (λ a b. given (ranged a b)) xs ≡ Ok k → Fits k (two_outcomes ranged_outcome os)
range_fits [] os k h e = absurd (mismatched k e)
range_fits (x ∷ []) os k h e = absurd (mismatched k e)
range_fits (x ∷ y ∷ []) [] k h e = absurd h
range_fits (x ∷ y ∷ []) (a ∷ []) k h e = absurd h.1
range_fits (x ∷ y ∷ []) (a ∷ b ∷ []) k h e = range_fits_two x y a b k h.0 h.1.0 e
range_fits (x ∷ y ∷ []) (a ∷ b ∷ c ∷ os) k h e = absurd h.1.1
range_fits (x ∷ y ∷ z ∷ xs) os k h e = absurd (mismatched k e)

-- membership

pub takes_parts : (a b : Kind) → takes a b ≡ true → (is_single a ≡ true) × (has_values b ≡ true)
takes_parts kind.Boolean kind.Boolean e = (refl, refl)
takes_parts kind.Boolean kind.BooleanSet e = (refl, refl)
takes_parts (kind.Word s w) (kind.Word t v) e = (refl, refl)
takes_parts (kind.Discrete d) (kind.Discrete c) e = (refl, refl)
takes_parts (kind.Discrete d) (kind.DiscreteSet c) e = (refl, refl)
takes_parts a b e = absurd (false≢true e)

boolean_fits : (k : Kind) (b : Bool) → kind.Boolean ≡ k → Fits k (one (value.Bool b))
boolean_fits k b e = let P : Kind → Type 0 = λ j. Fits j (one (value.Bool b)) in subst P e (refl, λ s. (value.Bool b, refl))

in_fits_two : (x y : Operand) (a b : Evaluation) (k : Kind) → Known x a → Known y b → given (boolean_if (takes x.kind y.kind)) ≡ Ok k → Fits k (included a b)
in_fits_two x y a b k h l e =
    let p = kind_if_is (takes x.kind y.kind) kind.Boolean k e in
    let parts = takes_parts x.kind y.kind p.0 in
    let P : Evaluation → Type 0 = λ o. Fits k (included o b) in
    elim (gives_one x a h (inl parts.0)) [
      | inl i ↦ subst P (sym i.2) tt
      | inr i ↦ subst P (sym i.1) (among_fits i.0 b l parts.1 p.1)
    ]
  where
    among_fits : (v : Value) (o : Evaluation) → Known y o → has_values y.kind ≡ true → kind.Boolean ≡ k → Fits k (included (one v) o)
    among_fits v (Fault rule place) l valued is = tt
    among_fits v Nothing l valued is = elim l [ inl i ↦ absurd i.fits | inr i ↦ absurd (true_false (has_values y.kind) valued i.0) ]
    among_fits v (Values ws) l valued is = boolean_fits k (list_any (same v) ws) is

in_fits : (xs : List Operand) (os : List Evaluation) (k : Kind) → AllKnown xs os → two (λ a b. given (boolean_if (takes a b))) xs ≡ Ok k → Fits k (two_outcomes included os)
in_fits [] os k h e = absurd (mismatched k e)
in_fits (x ∷ []) os k h e = absurd (mismatched k e)
in_fits (x ∷ y ∷ []) [] k h e = absurd h
in_fits (x ∷ y ∷ []) (a ∷ []) k h e = absurd h.1
in_fits (x ∷ y ∷ []) (a ∷ b ∷ []) k h e = in_fits_two x y a b k h.0 h.1.0 e
in_fits (x ∷ y ∷ []) (a ∷ b ∷ c ∷ os) k h e = absurd h.1.1
in_fits (x ∷ y ∷ z ∷ xs) os k h e = absurd (mismatched k e)

-- choices

-- a branch of this kind
abbrev IsBranch : Kind → Operand → Type 0
IsBranch k x = (has_values x.kind ≡ true) × (is_single k ≡ true → is_single x.kind ≡ true)

-- conditions and branches by turns, and perhaps a last branch
abbrev TakesTurns : Kind → List Operand → Type 0
TakesTurns k [] = Unit {0}
TakesTurns k (x ∷ []) = IsBranch k x
TakesTurns k (c ∷ x ∷ xs) = (is_boolean c.kind ≡ true) × IsBranch k x × TakesTurns k xs

branch_fits : (k : Kind) (x : Operand) (o : Evaluation) → Known x o → IsBranch k x → Into x.kind k → Fits k o
branch_fits k x (Fault rule place) h b into = tt
branch_fits k x Nothing h b into = elim h [ inl i ↦ absurd i.fits | inr i ↦ absurd (true_false (has_values x.kind) b.0 i.0) ]
branch_fits k x (Values vs) h b into = elim h [
  | inl i ↦ (all_into x.kind k into vs i.fits.0, λ s. i.fits.1 (b.1 s))
  | inr i ↦ absurd (true_false (has_values x.kind) b.0 i.0)
]

is_boolean_kind : (k : Kind) → is_boolean k ≡ true → k ≡ kind.Boolean
is_boolean_kind kind.Boolean e = refl
is_boolean_kind k e = absurd (false≢true e)

pub boolean_value : (v : Value) → is_among kind.Boolean v ≡ true → (b : Bool) × (v ≡ value.Bool b)
boolean_value (value.Bool b) e = (b, refl)
boolean_value (value.Int z) e = absurd (false≢true e)
boolean_value (value.Sym n) e = absurd (false≢true e)
boolean_value (value.Word s w a) e = absurd (false≢true e)

boolean_of : (x : Operand) (v : Value) → is_boolean x.kind ≡ true → IsOperand x v → (b : Bool) × (v ≡ value.Bool b)
boolean_of x v e h =
    let P : Kind → Type 0 = λ k. is_among k v ≡ true in
    boolean_value v (subst P (is_boolean_kind x.kind e) (among x.kind v h.kind))

taken_fits : (k : Kind) (rule : FaultRule) (place : Place) (b : Bool) (a : Evaluation) (os : List Evaluation) → Fits k a → Fits k (choice rule place os) → Fits k (choice rule place (one (value.Bool b) ∷ a ∷ os))
taken_fits k rule place true a os h l = h
taken_fits k rule place false a os h l = l

turns_fit : (k : Kind) (rule : FaultRule) (place : Place) (xs : List Operand) (os : List Evaluation) → AllKnown xs os → TakesTurns k xs → HasAll k (branches xs) → Fits k (choice rule place os)
turns_fit k rule place [] [] h t all = tt
turns_fit k rule place [] (o ∷ os) h t all = absurd h
turns_fit k rule place (x ∷ []) [] h t all = absurd h
turns_fit k rule place (x ∷ []) (a ∷ []) h t all = branch_fits k x a h.0 t all.0
turns_fit k rule place (x ∷ []) (a ∷ b ∷ os) h t all = absurd h.1
turns_fit k rule place (c ∷ x ∷ xs) [] h t all = absurd h
turns_fit k rule place (c ∷ x ∷ xs) (o ∷ []) h t all = absurd h.1
turns_fit k rule place (c ∷ x ∷ xs) (o ∷ a ∷ os) h t all =
    let P : Evaluation → Type 0 = λ y. Fits k (choice rule place (y ∷ a ∷ os)) in
    let single = ap is_single (is_boolean_kind c.kind t.0) in
    elim (gives_one c o h.0 (inl single)) [
      | inl i ↦ subst P (sym i.2) tt
      | inr i ↦
          let b = boolean_of c i.0 t.0 i.2 in
          subst P (sym (i.1 ∙ ap one b.1)) (taken_fits k rule place b.0 a os (branch_fits k x a h.1.0 t.1 all.0) (turns_fit k rule place xs os h.1.1 t.2 all.1))
    ]

-- what is chosen: it has values, and is single only where each part is
abbrev IsPart : Kind → Kind → Type 0
IsPart k j = (has_values j ≡ true) × (is_single k ≡ true → is_single j ≡ true)

joined_single : (a b : Kind) → is_single (joined a b) ≡ true → (is_single a ≡ true) × (is_single b ≡ true)
joined_single kind.Boolean kind.Boolean e = (refl, refl)
joined_single (kind.Word s w) (kind.Word t v) e = (refl, refl)
joined_single (kind.Discrete d) (kind.Discrete c) e = (refl, refl)
joined_single kind.Boolean kind.BooleanSet e = absurd (false≢true e)
joined_single kind.BooleanSet kind.Boolean e = absurd (false≢true e)
joined_single kind.BooleanSet kind.BooleanSet e = absurd (false≢true e)
joined_single (kind.Discrete d) (kind.DiscreteSet c) e = absurd (false≢true e)
joined_single (kind.DiscreteSet d) (kind.Discrete c) e = absurd (false≢true e)
joined_single (kind.DiscreteSet d) (kind.DiscreteSet c) e = absurd (false≢true e)
joined_single a b e = absurd (false≢true e)

joined_parts : (k a b : Kind) → IsPart k (joined a b) → IsPart k a × IsPart k b
joined_parts k a b h =
    let valued = joined_valued a b h.0 in
    ((valued.0, λ s. (joined_single a b (h.1 s)).0), (valued.1, λ s. (joined_single a b (h.1 s)).1))

itself : (j k : Kind) → settled j ≡ true → given j ≡ Ok k → IsPart k j
itself j k s e = (given_settled j k s e, λ single. ap is_single (given_is j k e) ∙ single)

if_given : (b : Bool) (j k : Kind) → given (kind_if b j) ≡ Ok k → (b ≡ true) × (given j ≡ Ok k)
if_given true j k e = (refl, e)
if_given false j k e = absurd (mismatched k e)

after_turns : (xs : List Operand) (j k : Kind) → settled j ≡ true → given (chosen_after j xs) ≡ Ok k → IsPart k j × TakesTurns k xs
after_turns [] j k s e = (itself j k s e, tt)
after_turns (x ∷ []) j k s e =
    let p = joined_parts k j x.kind (itself (joined j x.kind) k (joined_settled j x.kind) e) in
    (p.0, p.1)
after_turns (c ∷ x ∷ xs) j k s e =
    let f = if_given (is_boolean c.kind) (chosen_after (joined j x.kind) xs) k e in
    let rest = after_turns xs (joined j x.kind) k (joined_settled j x.kind) f.1 in
    let p = joined_parts k j x.kind rest.0 in
    (p.0, (f.0, p.1, rest.1))

branch_settled : (a : Kind) → settled (branch a) ≡ true
unfolding settled
branch_settled kind.Array = refl
branch_settled kind.Instance = refl
branch_settled a = refl

branch_valued : (a : Kind) → has_values (branch a) ≡ true → has_values a ≡ true
branch_valued kind.Array e = e
branch_valued kind.Instance e = e
branch_valued a e = e

branch_single : (a : Kind) → is_single (branch a) ≡ true → is_single a ≡ true
branch_single kind.Array e = e
branch_single kind.Instance e = e
branch_single a e = e

chosen_turns : (xs : List Operand) (k : Kind) → given (chosen xs) ≡ Ok k → TakesTurns k xs
chosen_turns [] k e = absurd (mismatched k e)
chosen_turns (x ∷ []) k e = absurd (mismatched k e)
chosen_turns (c ∷ x ∷ xs) k e =
    let f = if_given (is_boolean c.kind) (chosen_after (branch x.kind) xs) k e in
    let rest = after_turns xs (branch x.kind) k (branch_settled x.kind) f.1 in
    (f.0, (branch_valued x.kind rest.0.0, λ s. branch_single x.kind (rest.0.1 s)), rest.1)

-- Arrays have no values.

abbrev pub makes_array : Operator → Bool
makes_array operator.Index = true
makes_array operator.WholeArray = true
makes_array other = false

if_unvalued : (b : Bool) → has_values (kind_in (given (kind_if b kind.Array))) ≡ false
if_unvalued true = refl
if_unvalued false = refl

indexed_unvalued : (a i : Kind) → has_values (kind_in (given (indexed a i))) ≡ false
indexed_unvalued kind.Array i = if_unvalued (is_integer i)
indexed_unvalued a i = refl

index_unvalued : (xs : List Operand) → has_values (kind_in (two (λ a i. given (indexed a i)) xs)) ≡ false
index_unvalued [] = refl
index_unvalued (x ∷ []) = refl
index_unvalued (x ∷ y ∷ []) = indexed_unvalued x.kind y.kind
index_unvalued (x ∷ y ∷ z ∷ xs) = refl

whole_unvalued : (xs : List Operand) → has_values (kind_in (whole_array xs)) ≡ false
whole_unvalued [] = refl
whole_unvalued (x ∷ xs) = refl

pub array_unvalued : (o : Operator) (xs : List Operand) → makes_array o ≡ true → has_values (kind_in (kind_given o xs)) ≡ false
array_unvalued operator.Index xs e = index_unvalued xs
array_unvalued operator.WholeArray xs e = whole_unvalued xs
array_unvalued other xs e = absurd (false≢true e)

pub array_unset : (o : Operator) (xs : List Operand) → makes_array o ≡ true → constant_given o xs ≡ None
array_unset operator.Index xs e = not_constant operator.Index xs refl
array_unset operator.WholeArray xs e = not_constant operator.WholeArray xs refl
array_unset other xs e = absurd (false≢true e)

-- An operator over operands of kinds that it takes gives values of the kind that is told, or faults, where that is no
-- array.
pub applied_fits : (o : Operator) (place : Place) (xs : List Operand) (os : List Evaluation) (k : Kind) → is_temporal o ≡ false → makes_array o ≡ false → AllKnown xs os → kind_given o xs ≡ Ok k →
    Fits k (applied o place os)
applied_fits (operator.Choice rule) place xs os k t n h e = turns_fit k rule place xs os h (chosen_turns xs k e) (all_branches xs k e)
applied_fits operator.Members place xs os k t n h e = members_fit xs os k h e
applied_fits operator.Union place xs os k t n h e = union_fits xs os k h e
applied_fits operator.Range place xs os k t n h e = range_fits xs os k h e
applied_fits operator.In place xs os k t n h e = in_fits xs os k h e
applied_fits operator.Index place xs os k t n h e = absurd (let no : ⊥ = cc in no)
applied_fits operator.WholeArray place xs os k t n h e = absurd (let no : ⊥ = cc in no)
applied_fits (operator.Temporal o) place xs os k t n h e = absurd (let no : ⊥ = cc in no)
applied_fits (operator.Bounded o low high) place xs os k t n h e = absurd (let no : ⊥ = cc in no)
applied_fits (operator.Window o) place xs os k t n h e = absurd (let no : ⊥ = cc in no)
applied_fits other place xs os k t n h e = value_fits other place xs os k refl h e
