-- The first refusal of lists that are put together.
use Rattle.std.proofs.Common.{◌≡◌, List, [], ◌∷◌, ◌++◌, map, Option, None, Some, refl, ap, ◌∙◌}
use Rattle.std.specs.List.{flat_map}
use Rattle.smv_tree.specs.declared.refusal.Refusal.{Refusal}
use Rattle.smv_verdicts.specs.Verdicts.{first_of, or_else}

pub or_else-none : (a : Option Refusal) → or_else a None ≡ a
or_else-none None = refl
or_else-none (Some r) = refl

or_else-assoc : (a b c : Option Refusal) → or_else a (or_else b c) ≡ or_else (or_else a b) c
or_else-assoc None b c = refl
or_else-assoc (Some r) b c = refl

module _ {A : Type 0} (f : A → Option Refusal) where
  pub first_of-append : (xs ys : List A) → first_of f (xs ++ ys) ≡ or_else (first_of f xs) (first_of f ys)
  first_of-append [] ys = refl
  first_of-append (x ∷ xs) ys = ap (or_else (f x)) (first_of-append xs ys) ∙ or_else-assoc (f x) (first_of f xs) (first_of f ys)

  pub first_of-last : (xs : List A) (x : A) → first_of f (xs ++ x ∷ []) ≡ or_else (first_of f xs) (f x)
  first_of-last xs x = first_of-append xs (x ∷ []) ∙ ap (or_else (first_of f xs)) (or_else-none (f x))

  pub first_of-two : (x y : A) → first_of f (x ∷ y ∷ []) ≡ or_else (f x) (f y)
  first_of-two x y = ap (or_else (f x)) (or_else-none (f y))

  -- of pieces of which the rule says what another says of what they come from
  pub first_of-flat_map : {B : Type 0} (g : B → List A) (h : B → Option Refusal) → ((x : B) → first_of f (g x) ≡ h x) → (xs : List B) → first_of f (flat_map g xs) ≡ first_of h xs
  first_of-flat_map g h same [] = refl
  first_of-flat_map g h same (x ∷ xs) =
      first_of-append (g x) (flat_map g xs) ∙ ap (λ r. or_else r (first_of f (flat_map g xs))) (same x) ∙ ap (or_else (h x)) (first_of-flat_map g h same xs)

  pub first_of-map : {B : Type 0} (g : B → A) (xs : List B) → first_of f (map g xs) ≡ first_of (λ x. f (g x)) xs
  first_of-map g [] = refl
  first_of-map g (x ∷ xs) = ap (or_else (f (g x))) (first_of-map g xs)
