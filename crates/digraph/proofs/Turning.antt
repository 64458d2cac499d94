-- A cycle may begin at any of its nodes.
use Rattle.std.proofs.Common.{◌≡◌, inl, inr, ℕ, ◌<◌, ◌≤◌, ◌+◌, ◌-◌, List, [], ◌∷◌, ◌++◌, length, get_or, take, drop, subst, sym, refl, ap, ◌∙◌, arith, append-nil, length-append, length-drop, length-take-le}
use Rattle.std.proofs.lemmas.Bool.{cases_lt}
use Rattle.std.proofs.lemmas.List.{get_or_append_left, get_or-append_right, take-append-drop}
use Rattle.digraph.specs.Cycles.{Walk, IsCycle, Distinct, IsCanonicalCycle}
use Rattle.digraph.specs.Turn.{IsTurn}

split : (g : List (List ℕ)) (xs ys : List ℕ) (a m b : ℕ) → Walk g a (xs ++ m ∷ ys) b → Walk g a xs m × Walk g m ys b
split g [] ys a m b w = w
split g (x ∷ xs) ys a m b w = let s = split g xs ys x m b w.1 in ((w.0, s.0), s.1)

join : (g : List (List ℕ)) (xs ys : List ℕ) (a m b : ℕ) → Walk g a xs m → Walk g m ys b → Walk g a (xs ++ m ∷ ys) b
join g [] ys a m b v w = (v, w)
join g (x ∷ xs) ys a m b v w = (v.0, join g xs ys x m b v.1 w)

turns : (g : List (List ℕ)) (xs ys : List ℕ) → IsCycle g (xs ++ ys) → IsCycle g (ys ++ xs)
turns g [] ys w = let P : List ℕ → Type 0 = λ r. IsCycle g r in subst P (sym (append-nil ys)) w
turns g (x ∷ xs) [] w = let P : List ℕ → Type 0 = λ r. IsCycle g r in subst P (append-nil (x ∷ xs)) w
turns g (x ∷ xs) (m ∷ ys) w = let s = split g xs ys x m x w in join g ys xs m x m s.1 s.0

module _ (xs ys : List ℕ) (apart : Distinct (xs ++ ys)) where
  long : length (ys ++ xs) ≡ length ys + length xs
  long = length-append ys xs

  all : length (xs ++ ys) ≡ length xs + length ys
  all = length-append xs ys

  low : (i : ℕ) → i < length ys → get_or (ys ++ xs) i 0 ≡ get_or (xs ++ ys) (length xs + i) 0
  low i lt = get_or_append_left ys xs 0 i lt ∙ ap (λ k. get_or ys k 0) (let e : i ≡ length xs + i - length xs = omega arith in e) ∙ sym (get_or-append_right xs ys (length xs) (length xs + i) 0 refl (omega arith))

  high : (i : ℕ) → length ys ≤ i → i < length ys + length xs → get_or (ys ++ xs) i 0 ≡ get_or (xs ++ ys) (i - length ys) 0
  high i le lt = get_or-append_right ys xs (length ys) i 0 refl le ∙ sym (get_or_append_left xs ys 0 (i - length ys) (omega arith))

  distinct : Distinct (ys ++ xs)
  distinct i j less lt e = elim (cases_lt j (length ys)) [
    | inl a ↦ apart (length xs + i) (length xs + j) (omega arith) (omega (arith, all)) (sym (low i (omega arith)) ∙ e ∙ low j a)
    | inr b ↦
        let lt' : j < length ys + length xs = omega (arith, long) in
        elim (cases_lt i (length ys)) [
          | inl a ↦ apart (j - length ys) (length xs + i) (omega arith) (omega (arith, all)) (sym (high j b lt') ∙ sym e ∙ low i a)
          | inr c ↦ apart (i - length ys) (j - length ys) (omega arith) (omega (arith, all)) (sym (high i c (omega arith)) ∙ e ∙ high j b lt')
        ]
  ]

module _ (cycle : List ℕ) (k : ℕ) (within : k < length cycle) (least : (j : ℕ) → j < length cycle → get_or cycle k 0 ≤ get_or cycle j 0)
    (apart : Distinct (take k cycle ++ drop k cycle)) where
  front : length (take k cycle) ≡ k
  front = length-take-le k cycle (omega (arith, within))

  back : length (drop k cycle) + k ≡ length cycle
  back = omega (arith, length-drop k cycle)

  read : (i j : ℕ) → i ≡ j → get_or (take k cycle ++ drop k cycle) i 0 ≡ get_or cycle j 0
  read i j e = ap (λ r. get_or r i 0) (take-append-drop k cycle) ∙ ap (λ n. get_or cycle n 0) e

  first : get_or (drop k cycle ++ take k cycle) 0 0 ≡ get_or cycle k 0
  first = low (take k cycle) (drop k cycle) apart 0 (omega (arith, back)) ∙ read (length (take k cycle) + 0) k (omega (arith, front))

  least_of : (j : ℕ) → j < length (drop k cycle ++ take k cycle) → get_or (drop k cycle ++ take k cycle) 0 0 ≤ get_or (drop k cycle ++ take k cycle) j 0
  least_of j lt = elim (cases_lt j (length (drop k cycle))) [
    | inl a ↦
        let e = low (take k cycle) (drop k cycle) apart j a ∙ read (length (take k cycle) + j) (k + j) (omega (arith, front)) in
        let h = least (k + j) (omega (arith, back)) in
        omega (arith, e, h, first)
    | inr b ↦
        let total : length (drop k cycle ++ take k cycle) ≡ length (drop k cycle) + length (take k cycle) = length-append (drop k cycle) (take k cycle) in
        let e = high (take k cycle) (drop k cycle) apart j b (omega (arith, total)) ∙ read (j - length (drop k cycle)) (j - length (drop k cycle)) refl in
        let h = least (j - length (drop k cycle)) (omega (arith, back, total, front)) in
        omega (arith, e, h, first)
  ]

pub turned : (g : List (List ℕ)) (cycle result : List ℕ) → IsCycle g cycle × Distinct cycle → IsTurn cycle result → IsCanonicalCycle g result
turned g cycle result is turn =
    let k = turn.place in
    let whole : take k cycle ++ drop k cycle ≡ cycle = take-append-drop k cycle in
    let P : List ℕ → Type 0 = λ r. IsCycle g r in
    let Q : List ℕ → Type 0 = λ r. Distinct r in
    let R : List ℕ → Type 0 = λ r. IsCanonicalCycle g r in
    let simple : Distinct (drop k cycle ++ take k cycle) = distinct (take k cycle) (drop k cycle) (subst Q (sym whole) is.1) in
    subst R (sym turn.is) (record {
      leads = turns g (take k cycle) (drop k cycle) (subst P (sym whole) is.0);
      simple = simple;
      least = λ j lt. least_of cycle turn.place turn.within turn.least (subst Q (sym whole) is.1) j lt;
    })

pub some : (g : List (List ℕ)) (cycle : List ℕ) → IsCycle g cycle × Distinct cycle → 0 < length cycle
some g [] is = absurd is.0
some g (x ∷ xs) is = omega arith
