-- The spots of what sections declare, and the symbol tables of modules.
use Rattle.std.proofs.Common.{◌≡◌, ℕ, zero, suc, ◌+◌, ◌<◌, ◌≤◌, List, [], ◌∷◌, ◌++◌, length, get_or, take, take_all, drop, map, Option, Some, slice_get, refl, sym, ap, ◌∙◌, arith, append_assoc, append-nil, length-append, drop_of_length-le}
use Rattle.std.specs.List.{flat_map}
use Rattle.std.specs.Option.{option_and_then}
use Rattle.std.proofs.lemmas.List.{map-append}
use Rattle.smv_tree.specs.declared.tree.Section.{Section}
use Rattle.smv_scope.specs.declared.symbols.Spot.{Spot}
use Rattle.smv_scope.specs.Symbols.{spots_in, spots_of, declared_in, declared_at}
use Rattle.smv_scope.proofs.Indexing.{drop_next}

-- one section more
pub spots_next : {A : Type 0} (declares : Section → List A) (sections : List Section) (k : ℕ) (x : Section) (old new : List Spot) (n : ℕ) → k < length sections → x ≡ get_or sections k x → n ≡ length (declares x)
    → new ≡ old ++ spots_in k n → new ++ spots_of declares (k + 1) (drop (k + 1) sections) ≡ old ++ spots_of declares k (drop k sections)
spots_next declares sections k x old new n h e long is =
    ap (λ ys. ys ++ spots_of declares (k + 1) (drop (k + 1) sections)) (is ∙ ap (λ m. old ++ spots_in k m) long)
    ∙ append_assoc old (spots_in k (length (declares x))) _
    ∙ ap (λ xs. old ++ spots_of declares k xs) (sym (drop_next sections k x h e))

pub spots_end : {A : Type 0} (declares : Section → List A) (sections : List Section) (k : ℕ) (spots : List Spot) → length sections ≤ k → spots ≡ spots ++ spots_of declares k (drop k sections)
spots_end declares sections k spots h = sym (append-nil spots) ∙ ap (λ xs. spots ++ spots_of declares k xs) (sym (drop_of_length-le sections h))

-- what stands at the spots

next_some : {A : Type 0} (xs : List A) (n : ℕ) → n < length xs → map (λ x. Some x) (take n xs) ++ slice_get xs n ∷ [] ≡ map (λ x. Some x) (take (suc n) xs)
next_some [] n h = absurd (omega arith)
next_some (x ∷ xs) zero h = refl
next_some (x ∷ xs) (suc n) h = ap (λ ys. Some x ∷ ys) (next_some xs n (omega arith))

in_section : {A : Type 0} (declares : Section → List A) (sections : List Section) (k : ℕ) (x : Section) (n : ℕ) → slice_get sections k ≡ Some x → n ≤ length (declares x)
    → map (declared_at declares sections) (spots_in k n) ≡ map (λ y. Some y) (take n (declares x))
in_section declares sections k x zero is h = refl
in_section {A} declares sections k x (suc n) is h =
    let last : Spot = record { section = k; index = n } in
    let before : List (Option A) = map (λ y. Some y) (take n (declares x)) in
    map-append (declared_at declares sections) (spots_in k n) (last ∷ [])
    ∙ ap (λ ys. ys ++ declared_at declares sections last ∷ []) (in_section declares sections k x n is (omega arith))
    ∙ ap (λ o. before ++ declared_in declares n o ∷ []) is
    ∙ next_some (declares x) n (omega arith)

pub stands_behind : {A : Type 0} (xs ys : List A) (y : A) → slice_get (xs ++ y ∷ ys) (length xs) ≡ Some y
stands_behind [] ys y = refl
stands_behind (x ∷ xs) ys y = stands_behind xs ys y

behind : {A : Type 0} (declares : Section → List A) (before rest sections : List Section) (k : ℕ) → k ≡ length before → sections ≡ before ++ rest
    → map (declared_at declares sections) (spots_of declares k rest) ≡ map (λ y. Some y) (flat_map declares rest)
behind declares before [] sections k e is = refl
behind {A} declares before (x ∷ xs) sections k e is =
    let some : A → Option A = λ y. Some y in
    let here : slice_get sections k ≡ Some x = ap (slice_get sections) e ∙ ap (λ ss. slice_get ss (length before)) is ∙ stands_behind before xs x in
    let long : k + 1 ≡ length (before ++ x ∷ []) = omega (arith, length-append before (x ∷ [])) in
    let split : sections ≡ (before ++ x ∷ []) ++ xs = is ∙ sym (append_assoc before (x ∷ []) xs) in
    map-append (declared_at declares sections) (spots_in k (length (declares x))) (spots_of declares (k + 1) xs)
    ∙ ap (λ ys. ys ++ map (declared_at declares sections) (spots_of declares (k + 1) xs))
    (in_section declares sections k x (length (declares x)) here (omega arith) ∙ ap (map some) (take_all (length (declares x)) (declares x) (omega arith)))
    ∙ ap (λ ys. map some (declares x) ++ ys) (behind declares (before ++ x ∷ []) xs sections (k + 1) long split)
    ∙ sym (map-append some (declares x) (flat_map declares xs))

at_number : {A B : Type 0} (g : B → Option A) (spots : List B) (xs : List A) (n : ℕ) → map g spots ≡ map (λ x. Some x) xs → option_and_then g (slice_get spots n) ≡ slice_get xs n
at_number g [] [] n e = refl
at_number g [] (x ∷ xs) n e = absurd cc
at_number g (b ∷ bs) [] n e = absurd cc
at_number g (b ∷ bs) (x ∷ xs) zero e = cc
at_number g (b ∷ bs) (x ∷ xs) (suc n) e = let rest : map g bs ≡ map (λ y. Some y) xs = cc in at_number g bs xs n rest

-- what stands at the spot of a number has that number
pub at_spot : {A : Type 0} (declares : Section → List A) (sections : List Section) (spots : List Spot) (n : ℕ) → spots ≡ spots_of declares 0 sections
    → option_and_then (declared_at declares sections) (slice_get spots n) ≡ slice_get (flat_map declares sections) n
at_spot declares sections spots n e =
    ap (λ ss. option_and_then (declared_at declares sections) (slice_get ss n)) e
    ∙ at_number (declared_at declares sections) (spots_of declares 0 sections) (flat_map declares sections) n (behind declares [] sections sections 0 refl refl)
