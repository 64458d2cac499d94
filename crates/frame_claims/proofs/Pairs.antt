-- What holds of all pairs of a list.
use Rattle.std.proofs.Common.{◌≡◌, ◌-◌, ◌≤◌, List, [], ◌∷◌, ◌++◌, length, refl, sym, subst, inl, inr, arith, length-append, get_or}
use Rattle.std.specs.Prelude.{AllPairs, Contains, map}
use Rattle.std.proofs.lemmas.Bool.{cases_lt}
use Rattle.std.proofs.Math.ListN.{get_or-append, length-map}
use Rattle.std.proofs.lemmas.List.{get_or-append_right, get_or-map}
use Rattle.std.proofs.lemmas.List.Elements.{Contains-get_or}

-- what holds of all pairs of both, and of each of the first with each of the second, holds of all pairs
pub pairs_join : {X : Type 0} (R : X → X → Type 0) (ps qs : List X) → AllPairs R ps → AllPairs R qs →
    ((p q : X) → Contains ps p → Contains qs q → R p q) → AllPairs R (ps ++ qs)
pairs_join {X = X} R ps qs f s across i j d lt below =
    let long = length-append ps qs in
    elim (cases_lt j (length ps)) [
      | inl early ↦
          let P : X → Type 0 = λ x. R x (get_or (ps ++ qs) j d) in
          let Q : X → Type 0 = λ x. R (get_or ps i d) x in
          subst P (sym (get_or-append ps qs d i (omega arith))) (subst Q (sym (get_or-append ps qs d j early)) (f i j d lt early))
      | inr late ↦
          let there : get_or (ps ++ qs) j d ≡ get_or qs (j - length ps) d = get_or-append_right ps qs (length ps) j d refl (omega arith) in
          let Q : X → Type 0 = λ x. R (get_or (ps ++ qs) i d) x in
          elim (cases_lt i (length ps)) [
            | inl first ↦
                let P : X → Type 0 = λ x. R x (get_or qs (j - length ps) d) in
                let one = across (get_or ps i d) (get_or qs (j - length ps) d) (Contains-get_or ps i d first)
                (Contains-get_or qs (j - length ps) d (omega arith)) in
                subst Q (sym there) (subst P (sym (get_or-append ps qs d i first)) one)
            | inr second ↦
                let P : X → Type 0 = λ x. R x (get_or qs (j - length ps) d) in
                let here : get_or (ps ++ qs) i d ≡ get_or qs (i - length ps) d = get_or-append_right ps qs (length ps) i d refl (omega arith) in
                subst Q (sym there) (subst P (sym here) (s (i - length ps) (j - length ps) d (omega arith) (omega arith)))
          ]
    ]

-- a list of one at most has no pairs
pub no_pairs : {X : Type 0} (R : X → X → Type 0) (ps : List X) → length ps ≤ 1 → AllPairs R ps
no_pairs R ps few i j d lt below = absurd (omega (arith, few, lt, below))

-- what holds of the images of all pairs holds of all pairs of images
pairs_from : {X Y : Type 0} (R : Y → Y → Type 0) (f : X → Y) (xs : List X) → AllPairs (λ x y. R (f x) (f y)) xs → (e : X) → AllPairs R (map f xs)
pairs_from {X = X} {Y = Y} R f xs h e i j d lt below =
    let long : length (map f xs) ≡ length xs = length-map xs f in
    let one : get_or (map f xs) i d ≡ f (get_or xs i e) = get_or-map f xs i e d (omega (arith, below, long)) in
    let two : get_or (map f xs) j d ≡ f (get_or xs j e) = get_or-map f xs j e d (omega (arith, below, long)) in
    let P : Y → Type 0 = λ y. R y (get_or (map f xs) j d) in
    let Q : Y → Type 0 = λ y. R (f (get_or xs i e)) y in
    subst P (sym one) (subst Q (sym two) (h i j e lt (omega (arith, below, long))))

pub pairs_map : {X Y : Type 0} (R : Y → Y → Type 0) (f : X → Y) (xs : List X) → AllPairs (λ x y. R (f x) (f y)) xs → AllPairs R (map f xs)
pairs_map R f [] h = λ i j d lt below. absurd (omega (arith, below))
pairs_map R f (x ∷ xs) h = pairs_from R f (x ∷ xs) h x
