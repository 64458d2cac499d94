-- Lists whose elements are in a relation one by one.
use Rattle.std.proofs.Common.{◌≡◌, ◌∙◌, ℕ, zero, suc, ◌+◌, ◌<◌, List, [], ◌∷◌, ◌++◌, map, take, length, get_or, Some, refl, sym, ap, subst, arith}
use Rattle.std.specs.Prelude.{slice_get, slice_index_or}
use Rattle.std.specs.List.{All, Contains}
use Rattle.std.proofs.lemmas.List.{get_or-map, length-map, map-append, take_more}
use Rattle.std.proofs.lemmas.List.Elements.{Contains-get_or, All-nil, All-cons, All-head, All-tail}
use Rattle.bit_system.specs.Conditions.{Each}

-- what is made of an element of a list is among what is made of all
pub made_contains : {X A : Type 0} (f : X → A) (xs : List X) (ys : List A) (i : ℕ) (d : X) → map f xs ≡ ys → i < length xs → Contains ys (f (get_or xs i d))
made_contains f xs ys i d same within =
    let long : length (map f xs) ≡ length xs = length-map xs f in
    let there : Contains (map f xs) (get_or (map f xs) i (f (get_or xs i d))) = Contains-get_or (map f xs) i (f (get_or xs i d)) (omega (arith, long, within)) in
    subst (λ zs. Contains zs (f (get_or xs i d))) same (subst (Contains (map f xs)) (get_or-map f xs i d (f (get_or xs i d)) within) there)

module _ {A B : Type 0} (R : A → B → Type 0) where
  pub each_none : Each R [] []
  unfolding Each
  each_none = tt

  -- one more of each
  pub each_more : (xs : List A) (ys : List B) (x : A) (y : B) → Each R xs ys → R x y → Each R (xs ++ x ∷ []) (ys ++ y ∷ [])
  unfolding Each
  each_more [] [] x y each last = (last, tt)
  each_more [] (b ∷ ys) x y each last = absurd each
  each_more (a ∷ xs) [] x y each last = absurd each
  each_more (a ∷ xs) (b ∷ ys) x y each last = (each.0, each_more xs ys x y each.1 last)

  -- one more of each, of the first elements of a list
  pub each_next : (xs : List A) (ys : List B) (i : ℕ) (d : A) (y : B) → i < length xs → Each R (take i xs) ys → R (get_or xs i d) y → Each R (take (i + 1) xs) (ys ++ y ∷ [])
  each_next xs ys i d y within each last =
      subst (λ (zs : List A). Each R zs (ys ++ y ∷ [])) (sym (take_more xs i d within)) (each_more (take i xs) ys (get_or xs i d) y each last)

  -- one more of each, where the first are made of a list
  pub each_taken : {X : Type 0} (f : X → A) (xs : List X) (ys : List B) (i : ℕ) (d : X) (y : B) → i < length xs → Each R (map f (take i xs)) ys → R (f (get_or xs i d)) y → Each R (map f (take (i + 1) xs)) (ys ++ y ∷ [])
  each_taken f xs ys i d y within each last =
      subst (λ (zs : List A). Each R zs (ys ++ y ∷ [])) (sym (ap (map f) (take_more xs i d within) ∙ map-append f (take i xs) (get_or xs i d ∷ [])))
      (each_more (map f (take i xs)) ys (f (get_or xs i d)) y each last)

  -- as many of both
  pub each_long : (xs : List A) (ys : List B) → Each R xs ys → length ys ≡ length xs
  unfolding Each
  each_long [] [] each = refl
  each_long [] (b ∷ ys) each = absurd each
  each_long (a ∷ xs) [] each = absurd each
  each_long (a ∷ xs) (b ∷ ys) each = ap suc (each_long xs ys each.1)

  -- what follows of each of the second list
  pub each_all : (Q P : B → Type 0) (xs : List A) (ys : List B) → Each R xs ys → All Q ys → ((x : A) (y : B) → R x y → Q y → P y) → All P ys
  unfolding Each
  each_all Q P [] [] each all then = All-nil P
  each_all Q P [] (b ∷ ys) each all then = absurd each
  each_all Q P (a ∷ xs) [] each all then = absurd each
  each_all Q P (a ∷ xs) (b ∷ ys) each all then =
      All-cons P b ys (then a b each.0 (All-head Q b ys all)) (each_all Q P xs ys each.1 (All-tail Q b ys all) then)

  pub each_second : (P : B → Type 0) (xs : List A) (ys : List B) → Each R xs ys → ((x : A) (y : B) → R x y → P y) → All P ys
  unfolding Each
  each_second P [] [] each then = All-nil P
  each_second P [] (b ∷ ys) each then = absurd each
  each_second P (a ∷ xs) [] each then = absurd each
  each_second P (a ∷ xs) (b ∷ ys) each then = All-cons P b ys (then a b each.0) (each_second P xs ys each.1 then)

  -- what follows of what is made of the second list, at one place
  pub each_at : {C : Type 0} (f : B → C) (d : C) (P : C → Type 0) (xs : List A) (ys : List B) (j : ℕ) (x : A) → Each R xs ys → slice_get xs j ≡ Some x → ((y : B) → R x y → P (f y)) → P (slice_index_or (map f ys) j d)
  unfolding Each
  each_at f d P [] [] j x each at then = cc
  each_at f d P [] (b ∷ ys) j x each at then = absurd each
  each_at f d P (a ∷ xs) [] j x each at then = absurd each
  each_at f d P (a ∷ xs) (b ∷ ys) zero x each at then = then b (subst (λ (z : A). R z b) (let e : a ≡ x = cc in e) each.0)
  each_at f d P (a ∷ xs) (b ∷ ys) (suc j) x each at then = each_at f d P xs ys j x each.1 at then

  -- another relation of each
  pub each_as : (S : A → B → Type 0) (xs : List A) (ys : List B) → Each R xs ys → ((x : A) (y : B) → R x y → S x y) → Each S xs ys
  unfolding Each
  each_as S [] [] each then = tt
  each_as S [] (b ∷ ys) each then = absurd each
  each_as S (a ∷ xs) [] each then = absurd each
  each_as S (a ∷ xs) (b ∷ ys) each then = (then a b each.0, each_as S xs ys each.1 then)

  -- from one list to the next
  pub each_through : {C : Type 0} (S : B → C → Type 0) (T : A → C → Type 0) (xs : List A) (ys : List B) (zs : List C) → Each R xs ys → Each S ys zs → ((x : A) (y : B) (z : C) → R x y → S y z → T x z) → Each T xs zs
  unfolding Each
  each_through S T [] [] [] first second then = tt
  each_through S T [] [] (c ∷ zs) first second then = absurd second
  each_through S T [] (b ∷ ys) zs first second then = absurd first
  each_through S T (a ∷ xs) [] zs first second then = absurd first
  each_through S T (a ∷ xs) (b ∷ ys) [] first second then = absurd second
  each_through S T (a ∷ xs) (b ∷ ys) (c ∷ zs) first second then = (then a b c first.0 second.0, each_through S T xs ys zs first.1 second.1 then)
