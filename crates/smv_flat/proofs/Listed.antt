-- Elements of lists that are mapped, filtered and joined.
use Rattle.std.proofs.Common.{◌≡◌, ◌⊎◌, inl, inr, ℕ, ◌<◌, ◌+◌, Bool, true, cond, List, [], ◌∷◌, filter, refl, sym, ap, subst, ◌∙◌, arith, All, Contains}
use Rattle.std.specs.List.{flat_map, range_with_len}
use Rattle.std.proofs.lemmas.Bool.{cases_Bool}
use Rattle.std.proofs.lemmas.List.Elements.{All-nil, All-head, All-tail, All-append, All-from_get_or, Contains-append_left, Contains-append_right, Contains-append_cases, Contains-push_cases}
use Rattle.std.proofs.lemmas.List.FromFn.{length-range_with_len, get_or-range_with_len}

-- the first element, or one behind it
pub first_or_later : {A : Type 0} (x : A) (xs : List A) (v : A) → Contains (x ∷ xs) v → (x ≡ v) ⊎ Contains xs v
first_or_later {A} x xs v h =
    elim (Contains-append_cases (x ∷ []) xs v h) [
      | inl one ↦ elim (Contains-push_cases [] x v one) [ inl none ↦ absurd (let lt : none.0 < 0 = none.1 in omega (arith, lt)) | inr e ↦ inl e ]
      | inr later ↦ inr later
    ]

pub first_in : {A : Type 0} (x : A) (xs : List A) → Contains (x ∷ xs) x
first_in x xs = (0, omega arith, refl)

pub later_in : {A : Type 0} (x : A) (xs : List A) (v : A) → Contains xs v → Contains (x ∷ xs) v
later_in x xs v h = Contains-append_right (x ∷ []) xs v h

pub none_in : {A : Type 0} (v : A) → Contains [] v → ⊥
none_in v h = let lt : h.0 < 0 = h.1 in omega (arith, lt)

-- what is so of each list is so of all joined
pub all_joined : {X A : Type 0} (P : A → Type 0) (f : X → List A) (xs : List X) → All (λ x. All P (f x)) xs → All P (flat_map f xs)
all_joined P f [] h = All-nil P
all_joined P f (x ∷ xs) h = All-append P (f x) (flat_map f xs) (All-head (λ y. All P (f y)) x xs h) (all_joined P f xs (All-tail (λ y. All P (f y)) x xs h))

-- an element of one list is one of all joined
pub joined_in : {X A : Type 0} (f : X → List A) (xs : List X) (x : X) (v : A) → Contains xs x → Contains (f x) v → Contains (flat_map f xs) v
joined_in f [] x v here h = absurd (none_in x here)
joined_in {X} {A} f (y ∷ ys) x v here h =
    elim (first_or_later y ys x here) [
      | inl e ↦ let P : X → Type 0 = λ z. Contains (f z) v in Contains-append_left (f y) (flat_map f ys) v (subst P (sym e) h)
      | inr later ↦ Contains-append_right (f y) (flat_map f ys) v (joined_in f ys x v later h)
    ]

-- an element that passes the test is kept
pub kept : {A : Type 0} (p : A → Bool) (xs : List A) (v : A) → Contains xs v → p v ≡ true → Contains (filter p xs) v
kept p [] v h passes = h
kept {A} p (x ∷ xs) v h passes =
    let P : List A → Type 0 = λ ys. Contains ys v in
    elim (first_or_later x xs v h) [
      | inl e ↦ subst P (sym (ap (λ b. cond b (x ∷ filter p xs) (filter p xs)) (ap p e ∙ passes))) (let Q : A → Type 0 = λ z. Contains (x ∷ filter p xs) z in subst Q e (first_in x (filter p xs)))
      | inr later ↦
          elim (cases_Bool (p x)) [
            | inl t ↦ subst P (sym (ap (λ b. cond b (x ∷ filter p xs) (filter p xs)) t)) (later_in x (filter p xs) v (kept p xs v later passes))
            | inr f ↦ subst P (sym (ap (λ b. cond b (x ∷ filter p xs) (filter p xs)) f)) (kept p xs v later passes)
          ]
    ]

-- the numbers below n
pub number_in : (n v : ℕ) → v < n → Contains (range_with_len 0 n) v
number_in n v lt = (v, (let e = length-range_with_len 0 n in omega (arith, e)), get_or-range_with_len 0 n v v lt ∙ (let e : 0 + v ≡ v = omega arith in e))

pub numbers_below : (n : ℕ) → All (λ v. v < n) (range_with_len 0 n)
numbers_below n =
    All-from_get_or (λ v. v < n) (range_with_len 0 n) 0 (λ i lt.
    let e = length-range_with_len 0 n in
    let within : i < n = omega (arith, e, lt) in
    let is = get_or-range_with_len 0 n i 0 within in
    omega (arith, is, within))
