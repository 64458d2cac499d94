-- A list with one element more.
use Rattle.std.proofs.Common.{◌≡◌, ℕ, ◌+◌, ◌<◌, Bool, true, false, List, [], ◌∷◌, ◌++◌, ◌||◌, length, map, get_or, drop, suc, take, Option, None, Some, refl, ap, sym, ◌∙◌}
use Rattle.std.specs.List.{list_any}
use Rattle.std.proofs.Math.Numerals.{suc-eq-add-one}
use Rattle.std.proofs.Math.Seq.{drop-cons}
use Rattle.std.proofs.lemmas.Bool.{cond-false}
use Rattle.std.proofs.lemmas.List.{map_more, take_more}
use Rattle.smv_tree.specs.declared.refusal.Rule.TheVariants as rule
use Rattle.smv_tree.specs.declared.tree.WrittenElement.{WrittenElement}
use Rattle.value_types.specs.declared.value_type.Element.{Element}
use Rattle.value_types.specs.Types.{element_value, is_element}
use Rattle.smv_tree.specs.declared.refusal.Refusal.{Refusal}
use Rattle.smv_verdicts.specs.Verdicts.{detailed, first_of, or_else}
use Rattle.smv_declared.specs.Refusals.{repeated}

or_swap : (a b c : Bool) → (a || (b || c)) ≡ (b || (a || c))
or_swap true true c = refl
or_swap true false c = refl
or_swap false true c = refl
or_swap false false c = refl

-- one element more passes the test
pub list_any-last : {A : Type 0} (test : A → Bool) (xs : List A) (x : A) → list_any test (xs ++ x ∷ []) ≡ (test x || list_any test xs)
list_any-last test [] x = refl
list_any-last test (y ∷ xs) x = ap (λ b. test y || b) (list_any-last test xs x) ∙ or_swap (test y) (test x) (list_any test xs)

or_else_both : (a b c : Option Refusal) → or_else a (or_else b c) ≡ or_else (or_else a b) c
or_else_both None b c = refl
or_else_both (Some r) b c = refl

pub first_of_both : {A : Type 0} (rule : A → Option Refusal) (xs ys : List A) → first_of rule (xs ++ ys) ≡ or_else (first_of rule xs) (first_of rule ys)
first_of_both rule [] ys = refl
first_of_both rule (x ∷ xs) ys = ap (or_else (rule x)) (first_of_both rule xs ys) ∙ or_else_both (rule x) (first_of rule xs) (first_of rule ys)

pub first_of-map : {A B : Type 0} (rule : B → Option Refusal) (f : A → B) (xs : List A) → first_of rule (map f xs) ≡ first_of (λ x. rule (f x)) xs
first_of-map rule f [] = refl
first_of-map rule f (x ∷ xs) = ap (or_else (rule (f x))) (first_of-map rule f xs)

-- none of those so far, nor of one more
pub none_more : {A : Type 0} (rule : A → Option Refusal) (xs : List A) (i : ℕ) (x : A) → i < length xs → x ≡ get_or xs i x → first_of rule (take i xs) ≡ None → rule x ≡ None →
    first_of rule (take (i + 1) xs) ≡ None
none_more rule xs i x within is so_far here =
    ap (first_of rule) (take_more xs i x within) ∙ first_of_both rule (take i xs) (get_or xs i x ∷ [])
    ∙ ap (λ r. or_else r (first_of rule (get_or xs i x ∷ []))) so_far ∙ ap (λ y. or_else (rule y) None) (sym is) ∙ ap (λ r. or_else r None) here

-- what is left from an index on, with its first
left_of : {A : Type 0} (xs : List A) (i : ℕ) (x : A) → i < length xs → x ≡ get_or xs i x → drop i xs ≡ x ∷ drop (i + 1) xs
left_of {A} xs i x within is =
    drop-cons xs i x within ∙ ap (λ (y : A). y ∷ drop (suc i) xs) (sym is) ∙ ap (λ (n : ℕ). x ∷ drop n xs) (suc-eq-add-one i)

-- what is left gives the refusal of all, behind one that has none
pub first_further : {A : Type 0} (rule : A → Option Refusal) (xs : List A) (i : ℕ) (x : A) (all : Option Refusal) → i < length xs → x ≡ get_or xs i x → rule x ≡ None →
    first_of rule (drop i xs) ≡ all → first_of rule (drop (i + 1) xs) ≡ all
first_further rule xs i x all within is here left =
    sym (ap (first_of rule) (left_of xs i x within is) ∙ ap (λ r. or_else r (first_of rule (drop (i + 1) xs))) here) ∙ left

-- the same behind an element that is none of those before it
pub repeated_further : (f : WrittenElement → Element) (before after : List Element) (xs : List WrittenElement) (i : ℕ) (x : WrittenElement) (e : Element) (all : Option Refusal) → i < length xs →
    x ≡ get_or xs i x → e ≡ f x → list_any (is_element (element_value e)) before ≡ false → after ≡ before ++ e ∷ [] →
    repeated f before (drop i xs) ≡ all → repeated f after (drop (i + 1) xs) ≡ all
repeated_further f before after xs i x e all within is made fresh more left =
    let new : list_any (is_element (element_value (f x))) before ≡ false = ap (λ (y : Element). list_any (is_element (element_value y)) before) (sym made) ∙ fresh in
    ap (λ (ys : List Element). repeated f ys (drop (i + 1) xs)) (more ∙ ap (λ (y : Element). before ++ y ∷ []) made)
    ∙ sym
    (ap (repeated f before) (left_of xs i x within is)
    ∙ cond-false (list_any (is_element (element_value (f x))) before) (Some (detailed rule.DuplicateElement x.place x.text)) (repeated f (before ++ f x ∷ []) (drop (i + 1) xs)) new)
    ∙ left

-- one more of what is made of each
pub mapped_more : {X Y : Type 0} (f : X → Y) (xs : List X) (made after : List Y) (i : ℕ) (x : X) (y : Y) → i < length xs → x ≡ get_or xs i x → made ≡ map f (take i xs) → y ≡ f x →
    after ≡ made ++ y ∷ [] → after ≡ map f (take (i + 1) xs)
mapped_more {X} {Y} f xs made after i x y within is so_far value e =
    e ∙ ap (λ (ys : List Y). ys ++ y ∷ []) so_far ∙ ap (λ (z : Y). map f (take i xs) ++ z ∷ []) (value ∙ ap f is) ∙ sym (map_more f xs i x within)
