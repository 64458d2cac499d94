-- What a row keeps as its watches move.
use Rattle.std.proofs.Common.{◌≡◌, ℕ, ◌<◌, Bool, true, false, List, [], length, get_or, set, refl, sym, subst, ap, ◌∙◌, inl, inr, ◌⊎◌, arith, get_or-set_other, get_or-set_same, length-set}
use Rattle.std.proofs.lemmas.Bool.{cases_eq}
use Rattle.std.proofs.lemmas.List.{set-set}
use Rattle.clause_core.specs.declared.literal.Lit.{Lit}
use Rattle.clause_core.specs.Literals.{none_lit, at}
use Rattle.sat_prop.specs.Trails.{among}
use Rattle.sat_prop.specs.Packing.{pair_of, rewatched}
use Rattle.sat_prop.proofs.Ways.{among_where, among_here}

-- two tests that go through together
pub alike : (a b : Bool) → (a ≡ true → b ≡ true) → (b ≡ true → a ≡ true) → a ≡ b
alike true true f g = refl
alike false false f g = refl
alike true false f g = sym (f refl)
alike false true f g = g refl

-- three writes to a row
pub three_sets : (rows : List (List Lit)) (k j : ℕ) (other fallen : Lit) (one two three : List (List Lit)) → k < length rows →
    one ≡ set rows k (set (get_or rows k []) j fallen) → two ≡ set one k (set (get_or one k []) 0 (at (get_or rows k []) j)) → three ≡ set two k (set (get_or two k []) 1 other) →
    three ≡ set rows k (rewatched (get_or rows k []) j other fallen)
three_sets rows k j other fallen one two three lk e1 e2 e3 =
    let r = get_or rows k [] in
    let x = set r j fallen in
    let y = set x 0 (at r j) in
    let h1 : get_or one k [] ≡ x = ap (λ v. get_or v k []) e1 ∙ get_or-set_same rows k x [] lk in
    let f2 : two ≡ set rows k y = e2 ∙ ap (λ v. set one k (set v 0 (at r j))) h1 ∙ ap (λ v. set v k y) e1 ∙ set-set rows k x y in
    let h2 : get_or two k [] ≡ y = ap (λ v. get_or v k []) f2 ∙ get_or-set_same rows k y [] lk in
    e3 ∙ ap (λ v. set two k (set v 1 other)) h2 ∙ ap (λ v. set v k (set y 1 other)) f2 ∙ set-set rows k y (set y 1 other)

set_past : (xs : List Lit) (i n : ℕ) (x d : Lit) → (n ≡ i → ⊥) → get_or (set xs i x) n d ≡ get_or xs n d
set_past xs i n x d ne = rw get_or-set_other refl

at_first : (row : List Lit) (j : ℕ) (other fallen d : Lit) → 1 < length row → get_or (rewatched row j other fallen) 0 d ≡ at row j
at_first row j other fallen d two =
    let x = set row j fallen in
    let y = set x 0 (at row j) in
    let lx : length x ≡ length row = length-set row j fallen in
    set_past y 1 0 other d (λ e. omega (arith, e)) ∙ get_or-set_same x 0 (at row j) d (omega (arith, lx, two))

at_second : (row : List Lit) (j : ℕ) (other fallen d : Lit) → 1 < length row → get_or (rewatched row j other fallen) 1 d ≡ other
at_second row j other fallen d two =
    let x = set row j fallen in
    let y = set x 0 (at row j) in
    get_or-set_same y 1 other d (omega (arith, length-set row j fallen, length-set x 0 (at row j), two))

at_other : (row : List Lit) (j i : ℕ) (other fallen : Lit) → 1 < i → at (rewatched row j other fallen) i ≡ at (set row j fallen) i
at_other row j i other fallen li =
    let x = set row j fallen in
    let y = set x 0 (at row j) in
    let n1 : i ≡ 1 → ⊥ = λ e. omega (arith, li, e) in
    let n0 : i ≡ 0 → ⊥ = λ e. omega (arith, li, e) in
    set_past y 1 i other none_lit n1 ∙ set_past x 0 i (at row j) none_lit n0

pub rewatched_length : (row : List Lit) (j : ℕ) (other fallen : Lit) → length (rewatched row j other fallen) ≡ length row
rewatched_length row j other fallen =
    length-set (set (set row j fallen) 0 (at row j)) 1 other ∙ length-set (set row j fallen) 0 (at row j) ∙ length-set row j fallen

pub pair_rewatched : (row : List Lit) (j : ℕ) (other fallen : Lit) → 1 < length row → pair_of (rewatched row j other fallen) ≡ record { a = at row j; b = other }
pair_rewatched row j other fallen two =
    let r = rewatched row j other fallen in
    let a : at r 0 ≡ at row j = at_first row j other fallen none_lit two in
    let b : get_or r 1 (at r 0) ≡ other = at_second row j other fallen (at r 0) two in
    cc

-- the same literals stand in it
pub rewatched_same : (row : List Lit) (j : ℕ) (other fallen : Lit) → j < length row → 1 < j →
    ((at row 0 ≡ fallen) × (other ≡ at row 1)) ⊎ ((at row 1 ≡ fallen) × (other ≡ at row 0)) → (l : Lit) → among (rewatched row j other fallen) l ≡ among row l
rewatched_same row j other fallen lj two which l =
    let r = rewatched row j other fallen in
    let ln : length r ≡ length row = rewatched_length row j other fallen in
    let first : at r 0 ≡ at row j = at_first row j other fallen none_lit (omega (arith, lj, two)) in
    let second : at r 1 ≡ other = at_second row j other fallen none_lit (omega (arith, lj, two)) in
    let moved : at r j ≡ fallen = at_other row j j other fallen two ∙ get_or-set_same row j fallen none_lit lj in
    let rest : (i : ℕ) → 1 < i → (i ≡ j → ⊥) → at r i ≡ at row i = λ i li ne. at_other row j i other fallen li ∙ set_past row j i fallen none_lit ne in
    alike (among r l) (among row l)
    (λ on.
    let h = among_where r l on in
    elim (cases_eq h.0 0) [
      | inl e0 ↦ let A : ℕ → Type 0 = λ n. at r n ≡ l in among_here row j l lj (sym first ∙ subst A e0 h.2)
      | inr n0 ↦ elim (cases_eq h.0 1) [
        | inl e1 ↦
            let A : ℕ → Type 0 = λ n. at r n ≡ l in
            let o : other ≡ l = sym second ∙ subst A e1 h.2 in
            elim which [
              | inl w ↦ among_here row 1 l (omega (arith, lj, two)) (sym w.1 ∙ o)
              | inr w ↦ among_here row 0 l (omega (arith, lj, two)) (sym w.1 ∙ o)
            ]
        | inr n1 ↦ elim (cases_eq h.0 j) [
          | inl ej ↦
              let A : ℕ → Type 0 = λ n. at r n ≡ l in
              let f : fallen ≡ l = sym moved ∙ subst A ej h.2 in
              elim which [
                | inl w ↦ among_here row 0 l (omega (arith, lj, two)) (w.0 ∙ f)
                | inr w ↦ among_here row 1 l (omega (arith, lj, two)) (w.0 ∙ f)
              ]
          | inr nj ↦ among_here row h.0 l (omega (arith, h.1, ln)) (sym (rest h.0 (omega (arith, n0, n1)) nj) ∙ h.2)
        ]
      ]
    ])
    (λ on.
    let h = among_where row l on in
    let A : ℕ → Type 0 = λ n. at row n ≡ l in
    elim (cases_eq h.0 0) [
      | inl e0 ↦
          let z : at row 0 ≡ l = subst A e0 h.2 in
          elim which [
            | inl w ↦ among_here r j l (omega (arith, lj, ln)) (moved ∙ sym w.0 ∙ z)
            | inr w ↦ among_here r 1 l (omega (arith, lj, two, ln)) (second ∙ w.1 ∙ z)
          ]
      | inr n0 ↦ elim (cases_eq h.0 1) [
        | inl e1 ↦
            let z : at row 1 ≡ l = subst A e1 h.2 in
            elim which [
              | inl w ↦ among_here r 1 l (omega (arith, lj, two, ln)) (second ∙ w.1 ∙ z)
              | inr w ↦ among_here r j l (omega (arith, lj, ln)) (moved ∙ sym w.0 ∙ z)
            ]
        | inr n1 ↦ elim (cases_eq h.0 j) [
          | inl ej ↦ among_here r 0 l (omega (arith, lj, ln)) (first ∙ subst A ej h.2)
          | inr nj ↦ among_here r h.0 l (omega (arith, h.1, ln)) (rest h.0 (omega (arith, n0, n1)) nj ∙ h.2)
        ]
      ]
    ])
