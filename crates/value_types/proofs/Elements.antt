-- Elements of enumerations, and their positions.
use Rattle.std.proofs.Common.{◌≡◌, ℕ, zero, suc, ◌+◌, ◌<◌, Bool, true, false, not, ◌&&◌, ◌||◌, inl, inr, List, [], ◌∷◌, length, refl, sym, ◌∙◌, ap, arith, cond, ℤ}
use Rattle.std.specs.Prelude.{None, Some, int_le, position, slice_get, nat_lt}
use Rattle.std.specs.List.{list_any, position_or_len}
use Rattle.std.proofs.lemmas.Int.{ints}
use Rattle.std.proofs.lemmas.Bool.{cases_Bool, eqb-true, eq-eqb, lt-ltb}
use Rattle.std.proofs.lemmas.List.Folds.{list_any_at}
use Rattle.std.proofs.lemmas.Option.{slice_get_within, get_or_from_slice_get}
use Rattle.smv_value.specs.declared.value.Value.{Value}
use Rattle.smv_value.specs.declared.value.Value.TheVariants as value
use Rattle.value_types.specs.declared.value_type.Element.{Element}
use Rattle.value_types.specs.declared.value_type.Element.TheVariants as element
use Rattle.value_types.specs.Types.{element_value, is_distinct, is_element}

pub and_left : (a b : Bool) → (a && b) ≡ true → a ≡ true
and_left true b e = refl
and_left false b e = absurd cc

pub and_right : (a b : Bool) → (a && b) ≡ true → b ≡ true
and_right true b e = e
and_right false b e = absurd cc

pub both_true : (a b : Bool) → a ≡ true → b ≡ true → (a && b) ≡ true
both_true true b e f = f
both_true false b e f = absurd cc

pub same_int : (a b : ℤ) → (int_le a b && int_le b a) ≡ true → a ≡ b
same_int a b e = grind (arith, ints)

pub int_le_refl : (a : ℤ) → int_le a a ≡ true
int_le_refl a = grind (arith, ints)

-- the value is the element's
pub element_is : (v : Value) (e : Element) → is_element v e ≡ true → v ≡ element_value e
element_is (value.Bool b) (element.Int z) h = absurd cc
element_is (value.Bool b) (element.Sym n) h = absurd cc
element_is (value.Int a) (element.Int z) h = ap value.Int (same_int a z h)
element_is (value.Int a) (element.Sym n) h = absurd cc
element_is (value.Sym a) (element.Int z) h = absurd cc
element_is (value.Sym a) (element.Sym n) h = ap value.Sym (eqb-true a n h)
element_is (value.Word s w b) (element.Int z) h = absurd cc
element_is (value.Word s w b) (element.Sym n) h = absurd cc

pub element_same : (e : Element) → is_element (element_value e) e ≡ true
element_same (element.Int z) = both_true (int_le z z) (int_le z z) (int_le_refl z) (int_le_refl z)
element_same (element.Sym n) = eq-eqb n n refl

and_swapped : (a b : Bool) → (a && b) ≡ (b && a)
and_swapped true true = refl
and_swapped true false = refl
and_swapped false true = refl
and_swapped false false = refl

-- an element that is the value of another one is that one
element_turned : (d e : Element) → is_element (element_value d) e ≡ true → is_element (element_value e) d ≡ true
element_turned (element.Int a) (element.Int b) h = and_swapped (int_le b a) (int_le a b) ∙ h
element_turned (element.Int a) (element.Sym n) h = absurd cc
element_turned (element.Sym n) (element.Int a) h = absurd cc
element_turned (element.Sym n) (element.Sym m) h = eq-eqb m n (sym (eqb-true n m h))

pub position_here : {X : Type 0} (p : X → Bool) (x : X) (xs : List X) → p x ≡ true → position_or_len p (x ∷ xs) ≡ 0
position_here p x xs e = ap (λ b. cond (not b) (1 + position_or_len p xs) 0) e

pub position_later : {X : Type 0} (p : X → Bool) (x : X) (xs : List X) → p x ≡ false → position_or_len p (x ∷ xs) ≡ 1 + position_or_len p xs
position_later p x xs e = ap (λ b. cond (not b) (1 + position_or_len p xs) 0) e

-- where one passes, the first that passes is within
position_below : {X : Type 0} (p : X → Bool) (xs : List X) → list_any p xs ≡ true → position_or_len p xs < length xs
position_below p [] e = absurd cc
position_below p (x ∷ xs) e =
    elim (cases_Bool (p x)) [
      | inl passes ↦ omega (arith, position_here p x xs passes)
      | inr fails ↦ omega (arith, position_later p x xs fails, position_below p xs (sym (ap (λ b. b || list_any p xs) fails) ∙ e))
    ]

pub position_found : {X : Type 0} (p : X → Bool) (xs : List X) → list_any p xs ≡ true → position p xs ≡ Some (position_or_len p xs)
position_found p xs e = ap (λ b. cond b (Some (position_or_len p xs)) None) (lt-ltb (position_or_len p xs) (length xs) (position_below p xs e))

-- no element before it is the same
first_at : (es : List Element) (c : ℕ) (e : Element) → is_distinct es ≡ true → slice_get es c ≡ Some e → position_or_len (is_element (element_value e)) es ≡ c
first_at [] c e d h = absurd cc
first_at (x ∷ es) zero e d h =
    let is : x ≡ e = cc in
    position_here (is_element (element_value e)) x es (ap (λ y. is_element (element_value e) y) is ∙ element_same e)
first_at (x ∷ es) (suc c) e d h =
    elim (cases_Bool (is_element (element_value e) x)) [
      | inl passes ↦
          let among : list_any (is_element (element_value x)) es ≡ true =
          list_any_at (is_element (element_value x)) es c e (slice_get_within es c e h)
          (ap (is_element (element_value x)) (get_or_from_slice_get es c e e h) ∙ element_turned e x passes) in
          let none = and_left (not (list_any (is_element (element_value x)) es)) (is_distinct es) d in
          absurd (let no : not true ≡ true = sym (ap not among) ∙ none in cc)
      | inr fails ↦
          position_later (is_element (element_value e)) x es fails
          ∙ (let later = first_at es c e (and_right (not (list_any (is_element (element_value x)) es)) (is_distinct es) d) h in omega (arith, later))
    ]

pub element_position : (es : List Element) (c : ℕ) (e : Element) → is_distinct es ≡ true → slice_get es c ≡ Some e → position (is_element (element_value e)) es ≡ Some c
element_position es c e d h =
    let first = first_at es c e d h in
    let within : c < length es = slice_get_within es c e h in
    ap (λ n. cond (nat_lt n (length es)) (Some n) None) first ∙ ap (λ b. cond b (Some c) None) (lt-ltb c (length es) within)
