-- A list with one element more.
use Rattle.std.proofs.Common.{◌≡◌, ℕ, ◌+◌, ◌<◌, Bool, true, false, List, [], ◌∷◌, ◌++◌, ◌||◌, length, get_or, take, map, refl, sym, ap, ◌∙◌, append_assoc}
use Rattle.std.specs.List.{flat_map, list_any}
use Rattle.std.proofs.lemmas.List.{map-append, take_more}
use Rattle.smv_scope.proofs.Indexing.{flat_map-take}

or_swap : (a b c : Bool) → (a || (b || c)) ≡ (b || (a || c))
or_swap true true c = refl
or_swap true false c = refl
or_swap false true c = refl
or_swap false false c = refl

-- one element more passes the test
pub list_any-last : {A : Type 0} (test : A → Bool) (xs : List A) (x : A) → list_any test (xs ++ x ∷ []) ≡ (test x || list_any test xs)
list_any-last test [] x = refl
list_any-last test (y ∷ xs) x = ap (λ b. test y || b) (list_any-last test xs x) ∙ or_swap (test y) (test x) (list_any test xs)

-- the first elements and the next one, each as f has it
pub map-take : {X A : Type 0} (f : X → A) (xs : List X) (k : ℕ) (x : X) → k < length xs → x ≡ get_or xs k x → map f (take (k + 1) xs) ≡ map f (take k xs) ++ f x ∷ []
map-take f xs k x h e = ap (map f) (take_more xs k x h ∙ ap (λ y. take k xs ++ y ∷ []) (sym e)) ∙ map-append f (take k xs) (x ∷ [])

-- behind what stood there, what comes of the first elements, and then of the next one
pub flat_map-next : {X A : Type 0} (f : X → List A) (xs : List X) (k : ℕ) (x : X) (stood old new : List A) → k < length xs → x ≡ get_or xs k x → old ≡ stood ++ flat_map f (take k xs) → new ≡ old ++ f x
    → new ≡ stood ++ flat_map f (take (k + 1) xs)
flat_map-next f xs k x stood old new h e was is =
    is ∙ ap (λ ys. ys ++ f x) was ∙ append_assoc stood (flat_map f (take k xs)) (f x) ∙ ap (λ ys. stood ++ ys) (sym (flat_map-take f xs k x h e))
