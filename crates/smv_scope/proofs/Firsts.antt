-- The first element that passes, as a list grows.
use Rattle.std.proofs.Common.{◌≡◌, ℕ, ◌+◌, ◌<◌, Bool, cond, List, [], ◌∷◌, ◌++◌, length, get_or, take, Option, Some, None, position, sym, ap, ◌∙◌, arith, zero-add}
use Rattle.std.specs.List.{position_from}
use Rattle.std.proofs.lemmas.List.{take_more, length-take-le}
use Rattle.smv_scope.specs.Symbols.{first_of}
use Rattle.smv_scope.proofs.Indexing.{position_is, position_from-append_here, position_from-append_after}

first_append : {A : Type 0} (p : A → Bool) (xs : List A) (x : A) (o : Option ℕ) → position_from p 0 xs ≡ o → position_from p 0 (xs ++ x ∷ []) ≡ first_of o (p x) (length xs)
first_append p xs x (Some k) e = position_from-append_here p 0 xs (x ∷ []) k e
first_append p xs x None e = position_from-append_after p 0 xs (x ∷ []) e ∙ ap (λ n. cond (p x) (Some n) None) (zero-add (length xs))

-- one element more
pub first_next : {A : Type 0} (p : A → Bool) (xs : List A) (k : ℕ) (d : A) (old new : Option ℕ) (b : Bool) → k < length xs → b ≡ p (get_or xs k d) →
    old ≡ position p (take k xs) → new ≡ first_of old b k → new ≡ position p (take (k + 1) xs)
first_next p xs k d old new b h same before step =
    let x = get_or xs k d in
    let long : length (take k xs) ≡ k = length-take-le k xs (omega arith) in
    step ∙ ap (λ c. first_of old c k) same ∙ ap (λ n. first_of old (p x) n) (sym long)
    ∙ sym (first_append p (take k xs) x old (sym (position_is p (take k xs)) ∙ sym before))
    ∙ ap (position_from p 0) (sym (take_more xs k d h))
    ∙ sym (position_is p (take (k + 1) xs))

-- all elements
pub first_all : {A : Type 0} (p : A → Bool) (xs : List A) (k : ℕ) (o : Option ℕ) → take k xs ≡ xs → o ≡ position p (take k xs) → o ≡ position p xs
first_all p xs k o all is = is ∙ ap (position p) all
