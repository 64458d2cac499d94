-- The elements of lists one after another, by their numbers.
use Rattle.std.proofs.Common.{◌≡◌, ℕ, zero, suc, ◌+◌, ◌<◌, ◌≤◌, Bool, true, false, cond, List, [], ◌∷◌, ◌++◌, length, get_or, drop, map, Some, None, position, slice_get, refl, sym, ap, ◌∙◌, arith, drop-cons, add-one, add-zero, take, take_all, append-nil, append_assoc}
use Rattle.std.specs.List.{flat_map, position_from}
use Rattle.std.proofs.lemmas.List.{drop_more, take_more}
use Rattle.std.proofs.lemmas.List.Concat.{flat_map-append}
use Rattle.std.proofs.lemmas.Iterator.Adapters.{position_from-zero}

-- an element of the first list
pub slice_get-append_here : {A : Type 0} (xs ys : List A) (i : ℕ) → i < length xs → slice_get (xs ++ ys) i ≡ slice_get xs i
slice_get-append_here [] ys i h = absurd (omega arith)
slice_get-append_here (x ∷ xs) ys zero h = refl
slice_get-append_here (x ∷ xs) ys (suc i) h = slice_get-append_here xs ys i (omega arith)

-- the first piece that is left, and the others
pub flat_map-drop : {X A : Type 0} (f : X → List A) (xs : List X) (k : ℕ) (x : X) → k < length xs → x ≡ get_or xs k x → flat_map f (drop k xs) ≡ f x ++ flat_map f (drop (k + 1) xs)
flat_map-drop f xs k x h e = rw (add-one, drop-cons xs k x) (ap (λ y. f y ++ flat_map f (drop (suc k) xs)) (sym e))

-- numbers from 0 on
pub position_is : {A : Type 0} (p : A → Bool) (xs : List A) → position p xs ≡ position_from p 0 xs
position_is p xs = position_from-zero p xs

pub position_from-map : {A B : Type 0} (p : B → Bool) (f : A → B) (n : ℕ) (xs : List A) → position_from p n (map f xs) ≡ position_from (λ x. p (f x)) n xs
position_from-map p f n [] = refl
position_from-map p f n (x ∷ xs) = ap (cond (p (f x)) (Some n)) (position_from-map p f (n + 1) xs)

pub position-map : {A B : Type 0} (p : B → Bool) (f : A → B) (xs : List A) → position p (map f xs) ≡ position (λ x. p (f x)) xs
position-map p f xs = position_is p (map f xs) ∙ position_from-map p f 0 xs ∙ sym (position_is (λ x. p (f x)) xs)

-- one that passes stands in the first list
pub position_from-append_here : {A : Type 0} (p : A → Bool) (n : ℕ) (xs ys : List A) (k : ℕ) → position_from p n xs ≡ Some k → position_from p n (xs ++ ys) ≡ Some k
position_from-append_here p n [] ys k e = absurd (cc)
position_from-append_here {A} p n (x ∷ xs) ys k e = by (p x) (position_from-append_here p (n + 1) xs ys k) e
  where
    by : (b : Bool) → (position_from p (n + 1) xs ≡ Some k → position_from p (n + 1) (xs ++ ys) ≡ Some k) → cond b (Some n) (position_from p (n + 1) xs) ≡ Some k → cond b (Some n) (position_from p (n + 1) (xs ++ ys)) ≡ Some k
    by true i h = h
    by false i h = i h

-- none does
pub position_from-append_after : {A : Type 0} (p : A → Bool) (n : ℕ) (xs ys : List A) → position_from p n xs ≡ None → position_from p n (xs ++ ys) ≡ position_from p (n + length xs) ys
position_from-append_after p n [] ys e = rw add-zero refl
position_from-append_after {A} p n (x ∷ xs) ys e = by (p x) (position_from-append_after p (n + 1) xs ys) e
  where
    by : (b : Bool) → (position_from p (n + 1) xs ≡ None → position_from p (n + 1) (xs ++ ys) ≡ position_from p (n + 1 + length xs) ys) → cond b (Some n) (position_from p (n + 1) xs) ≡ None → cond b (Some n) (position_from p (n + 1) (xs ++ ys)) ≡ position_from p (n + suc (length xs)) ys
    by true i h = absurd (cc)
    by false i h = let same : n + suc (length xs) ≡ n + 1 + length xs = omega arith in rw same (i h)

-- the pieces so far, and the next one
pub flat_map-take : {X A : Type 0} (f : X → List A) (xs : List X) (k : ℕ) (x : X) → k < length xs → x ≡ get_or xs k x → flat_map f (take (k + 1) xs) ≡ flat_map f (take k xs) ++ f x
flat_map-take f xs k x h e =
    ap (flat_map f) (take_more xs k x h ∙ ap (λ y. take k xs ++ y ∷ []) (sym e))
    ∙ flat_map-append f (take k xs) (x ∷ []) ∙ ap (λ ys. flat_map f (take k xs) ++ ys) (append-nil (f x))

-- what is left of a list, from this element on
pub drop_next : {X : Type 0} (xs : List X) (i : ℕ) (x : X) → i < length xs → x ≡ get_or xs i x → drop i xs ≡ x ∷ drop (i + 1) xs
drop_next xs i x within here = drop_more xs i x within ∙ ap (λ y. y ∷ drop (i + 1) xs) (sym here)

-- the pieces so far behind a list, and the next one
pub flat_map-more : {X A : Type 0} (f : X → List A) (xs : List X) (k : ℕ) (x : X) (first old new ys : List A) → k < length xs → x ≡ get_or xs k x → new ≡ old ++ ys → f x ≡ ys
    → old ≡ first ++ flat_map f (take k xs) → new ≡ first ++ flat_map f (take (k + 1) xs)
flat_map-more f xs k x first old new ys h e is piece before =
    is ∙ ap (λ zs. zs ++ ys) before ∙ append_assoc first (flat_map f (take k xs)) ys
    ∙ ap (λ zs. first ++ zs) (ap (λ zs. flat_map f (take k xs) ++ zs) (sym piece) ∙ sym (flat_map-take f xs k x h e))

-- all the pieces
pub flat_map-all : {X A : Type 0} (f : X → List A) (xs : List X) (k : ℕ) (first all : List A) → length xs ≤ k → all ≡ first ++ flat_map f (take k xs) → all ≡ first ++ flat_map f xs
flat_map-all f xs k first all h is = is ∙ ap (λ zs. first ++ flat_map f zs) (take_all k xs h)
