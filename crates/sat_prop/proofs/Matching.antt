-- Rows have the literals of their clauses.
use Rattle.std.proofs.Common.{◌≡◌, ℕ, ◌<◌, ◌-◌, ◌&&◌, ◌||◌, Bool, true, false, not, cond, List, [], ◌∷◌, ◌++◌, length, take, get_or, set, refl, sym, subst, ap, ◌∙◌, inl, inr, ◌⊎◌, arith, get_or-set_other, get_or-set_same, length-append}
use Rattle.std.specs.List.{All, filter}
use Rattle.std.proofs.Math.ListN.{get_or-map}
use Rattle.std.proofs.Math.Seq.{get_or-append_seam, take-append_seam}
use Rattle.std.proofs.lemmas.Bool.{cases_eq, cases_lt, cases_Bool, both_ways}
use Rattle.std.proofs.lemmas.List.{get_or_append_left, get_or_default, get_or-take, length-map, length-take, map-append, map-set}
use Rattle.std.proofs.lemmas.List.Folds.{list_any_at}
use Rattle.std.proofs.lemmas.List.Elements.{All-contains}
use Rattle.clause_core.specs.declared.literal.Lit.{Lit}
use Rattle.clause_core.specs.Literals.{none_lit, at, negate}
use Rattle.clause_core.specs.Propagation.{UnitIn}
use Rattle.sat_prop.specs.declared.watch.Watches.{Watches}
use Rattle.sat_prop.specs.Trails.{is_literal, among}
use Rattle.sat_prop.specs.Watches.{HasTwo, WatchesIn, watches_at}
use Rattle.sat_prop.specs.Packing.{pair_of, pairs, is_beside, row_of, rewatched, RowsMatch}
use Rattle.sat_prop.proofs.Ways.{lit_is_same, lit_is_itself}
use Rattle.sat_prop.proofs.Sweeps.{contains_among}
use Rattle.sat_prop.proofs.Rewatched.{alike, pair_rewatched, rewatched_same}

pub pairs_len : (rows cs : List (List Lit)) → length rows ≡ length cs → length (pairs rows) ≡ length cs
pairs_len rows cs e = length-map rows pair_of ∙ e

pub pair_at : (rows : List (List Lit)) (k : ℕ) → watches_at (pairs rows) k ≡ pair_of (get_or rows k [])
pair_at rows k = get_or-map pair_of rows k []

-- the row of a clause more
pub pairs_push : (rows : List (List Lit)) (h : Watches) (c : List Lit) → pairs (rows ++ row_of h c ∷ []) ≡ pairs rows ++ h ∷ []
pairs_push rows h c = map-append pair_of rows (row_of h c ∷ [])

-- a row whose watches moved
pub pairs_move : (rows new : List (List Lit)) (k j : ℕ) (g o f : Lit) → 1 < length (get_or rows k []) → at (get_or rows k []) j ≡ g →
    new ≡ set rows k (rewatched (get_or rows k []) j o f) → pairs new ≡ set (pairs rows) k (record { a = g; b = o })
pairs_move rows new k j g o f two eg e =
    let row = get_or rows k [] in
    ap pairs e ∙ map-set pair_of rows k (rewatched row j o f) ∙ ap (set (pairs rows) k) (pair_rewatched row j o f two)
    ∙ ap (λ x. let w : Watches = record { a = x; b = o } in set (pairs rows) k w) eg

-- what holds of each literal of a list holds of each literal of one with the same literals
pub all_over : (r c : List Lit) (P : Lit → Type 0) → ((l : Lit) → among r l ≡ among c l) → All P r → All P c
all_over r c P same all k d lt =
    let x = get_or c k d in
    let on : among c x ≡ true = list_any_at (is_literal x) c k d lt (lit_is_itself x) in
    All-contains P r x all (contains_among r x (same x ∙ on))

pub all_back : (r c : List Lit) (P : Lit → Type 0) → ((l : Lit) → among r l ≡ among c l) → All P c → All P r
all_back r c P same all = all_over c r P (λ l. sym (same l)) all

pub unit_over : (t : Lit → Bool) (r c : List Lit) (o : Lit) → ((l : Lit) → among r l ≡ among c l) → among c o ≡ true → UnitIn t r o → UnitIn t c o
unit_over t r c o same on u = (contains_among c o on, all_over r c (λ m. (m ≡ o → ⊥) → t (negate m) ≡ true) same u.1)

-- of the watches, one became false and the other is `o`
pub watched_off : (t : Lit → Bool) (row : List Lit) (f o : Lit) → 1 < length row → ((at row 0 ≡ f) × (o ≡ at row 1)) ⊎ ((at row 1 ≡ f) × (o ≡ at row 0)) → t (negate f) ≡ true →
    All (λ m. (m ≡ o → ⊥) → t (negate m) ≡ true) (take 2 row)
watched_off t row f o two which off k d lt =
    let lk : k < 2 = omega (arith, lt, length-take 2 row) in
    let lr : k < length row = omega (arith, lk, two) in
    let e : get_or (take 2 row) k d ≡ at row k = get_or-take 2 row k d lk ∙ get_or_default row k d none_lit lr in
    let P : Lit → Type 0 = λ m. (m ≡ o → ⊥) → t (negate m) ≡ true in
    let F : Lit → Type 0 = λ m. t (negate m) ≡ true in
    let Q : ℕ → Type 0 = λ n. P (at row n) in
    let here : Q k = elim (cases_eq k 0) [
      | inl z ↦
          let q : Q 0 = elim which [ inl w ↦ λ _. subst F (sym w.0) off | inr w ↦ λ ne. absurd (ne (sym w.1)) ] in
          subst Q (sym z) q
      | inr nz ↦
          let one : k ≡ 1 = omega (arith, nz, lk) in
          let q : Q 1 = elim which [ inl w ↦ λ ne. absurd (ne (sym w.1)) | inr w ↦ λ _. subst F (sym w.0) off ] in
          subst Q (sym one) q
    ] in
    subst P (sym e) here

-- the watches move in one row
pub match_move : (cs rows new : List (List Lit)) (k j : ℕ) (o f : Lit) → k < length cs → k < length rows → HasTwo (pair_of (get_or rows k [])) → j < length (get_or rows k []) → 1 < j →
    ((at (get_or rows k []) 0 ≡ f) × (o ≡ at (get_or rows k []) 1)) ⊎ ((at (get_or rows k []) 1 ≡ f) × (o ≡ at (get_or rows k []) 0)) →
    new ≡ set rows k (rewatched (get_or rows k []) j o f) → RowsMatch cs rows → RowsMatch cs new
match_move cs rows new k j o f lc lk big lj two which e ok =
    let row = get_or rows k [] in
    let row' = rewatched row j o f in
    let M : List (List Lit) → Type 0 = RowsMatch cs in
    let now : M (set rows k row') = λ n ln bign l. elim (cases_eq n k) [
      | inl same ↦
          let P : ℕ → Type 0 = λ x. among (get_or (set rows k row') x []) l ≡ among (get_or cs x []) l in
          let here : P k = ap (λ v. among v l) (get_or-set_same rows k row' [] lk) ∙ rewatched_same row j o f lj two which l ∙ ok k lc big l in
          subst P (sym same) here
      | inr ne ↦
          let s : get_or (set rows k row') n [] ≡ get_or rows n [] = (rw get_or-set_other refl) in
          let B : List Lit → Type 0 = λ v. HasTwo (pair_of v) in
          ap (λ v. among v l) s ∙ ok n ln (subst B s bign) l
    ] in
    subst M (sym e) now

either : (a b : Bool) → (a || b) ≡ true → (a ≡ true) ⊎ (b ≡ true)
either true b e = inl refl
either false b e = inr e

or_left : (a b : Bool) → a ≡ true → (a || b) ≡ true
or_left true b e = refl
or_left false b e = absurd (both_ways false refl e)

or_right : (a b : Bool) → b ≡ true → (a || b) ≡ true
or_right true b e = refl
or_right false b e = e

filter_in : (p : Lit → Bool) (c : List Lit) (l : Lit) → among (filter p c) l ≡ true → among c l ≡ true
filter_in p [] l e = e
filter_in p (x ∷ xs) l e =
    let P : Bool → Type 0 = λ b. among (cond b (x ∷ filter p xs) (filter p xs)) l ≡ true in
    elim (cases_Bool (p x)) [
      | inl on ↦
          let here : P true = subst P on e in
          elim (either (is_literal l x) (among (filter p xs) l) here) [
            | inl s ↦ or_left (is_literal l x) (among xs l) s
            | inr r ↦ or_right (is_literal l x) (among xs l) (filter_in p xs l r)
          ]
      | inr off ↦
          let here : P false = subst P off e in
          or_right (is_literal l x) (among xs l) (filter_in p xs l here)
    ]

filter_has : (p : Lit → Bool) (c : List Lit) (l : Lit) → p l ≡ true → among c l ≡ true → among (filter p c) l ≡ true
filter_has p [] l pl e = e
filter_has p (x ∷ xs) l pl e =
    let P : Bool → Type 0 = λ b. among (cond b (x ∷ filter p xs) (filter p xs)) l ≡ true in
    elim (either (is_literal l x) (among xs l) e) [
      | inl s ↦
          let px : p x ≡ true = ap p (sym (lit_is_same l x s)) ∙ pl in
          let here : P true = or_left (is_literal l x) (among (filter p xs) l) s in
          subst P (sym px) here
      | inr r ↦
          let rest = filter_has p xs l pl r in
          elim (cases_Bool (p x)) [
            | inl on ↦ let here : P true = or_right (is_literal l x) (among (filter p xs) l) rest in subst P (sym on) here
            | inr off ↦ let here : P false = rest in subst P (sym off) here
          ]
    ]

beside : (a b : Bool) → a ≡ false → b ≡ false → (not a && not b) ≡ true
beside true b e f = absurd (both_ways true e refl)
beside false true e f = absurd (both_ways true f refl)
beside false false e f = refl

pub row_same : (h : Watches) (c : List Lit) → WatchesIn h c → (l : Lit) → among (row_of h c) l ≡ among c l
row_same h c two l =
    let F = filter (is_beside h) c in
    let A : Lit → Type 0 = λ x. among c x ≡ true in
    alike (among (row_of h c) l) (among c l)
    (λ on. elim (either (is_literal l h.a) (is_literal l h.b || among F l) on) [
      | inl a ↦ subst A (sym (lit_is_same l h.a a)) two.0
      | inr r ↦ elim (either (is_literal l h.b) (among F l) r) [
        | inl b ↦ subst A (sym (lit_is_same l h.b b)) two.1
        | inr rest ↦ filter_in (is_beside h) c l rest
      ]
    ])
    (λ on. elim (cases_Bool (is_literal l h.a)) [
      | inl a ↦ or_left (is_literal l h.a) (is_literal l h.b || among F l) a
      | inr na ↦ or_right (is_literal l h.a) (is_literal l h.b || among F l) (elim (cases_Bool (is_literal l h.b)) [
        | inl b ↦ or_left (is_literal l h.b) (among F l) b
        | inr nb ↦ or_right (is_literal l h.b) (among F l) (filter_has (is_beside h) c l (beside (is_literal l h.a) (is_literal l h.b) na nb) on)
      ])
    ])

-- a clause more, with its row
pub match_push : (cs rows : List (List Lit)) (h : Watches) (c : List Lit) → length rows ≡ length cs → (HasTwo h → WatchesIn h c) → RowsMatch cs rows →
    RowsMatch (cs ++ c ∷ []) (rows ++ row_of h c ∷ [])
match_push cs rows h c len two ok k lk big l =
    elim (cases_lt k (length cs)) [
      | inl lt ↦
          let e : get_or (rows ++ row_of h c ∷ []) k [] ≡ get_or rows k [] = get_or_append_left rows (row_of h c ∷ []) [] k (omega (arith, lt, len)) in
          let f : get_or (cs ++ c ∷ []) k [] ≡ get_or cs k [] = get_or_append_left cs (c ∷ []) [] k lt in
          let B : List Lit → Type 0 = λ v. HasTwo (pair_of v) in
          ap (λ v. among v l) e ∙ ok k lt (subst B e big) l ∙ ap (λ v. among v l) (sym f)
      | inr ge ↦
          let last : k ≡ length rows = omega (arith, lk, ge, len, length-append cs (c ∷ [])) in
          let lastc : k ≡ length cs = omega (arith, last, len) in
          let e : get_or (rows ++ row_of h c ∷ []) k [] ≡ row_of h c = rw last (get_or-append_seam rows (row_of h c) [] []) in
          let f : get_or (cs ++ c ∷ []) k [] ≡ c = rw lastc (get_or-append_seam cs c [] []) in
          let B : List Lit → Type 0 = λ v. HasTwo (pair_of v) in
          let has : HasTwo h = subst B e big in
          ap (λ v. among v l) e ∙ row_same h c (two has) l ∙ ap (λ v. among v l) (sym f)
    ]

-- what was put at the end is taken away again
pub popped : (rows mid last : List (List Lit)) (row : List Lit) → mid ≡ rows ++ row ∷ [] → last ≡ take (length mid - 1) mid → last ≡ rows
popped rows mid last row em el =
    let ys = rows ++ row ∷ [] in
    let ln : length ys - 1 ≡ length rows = omega (arith, length-append rows (row ∷ [])) in
    el ∙ ap (λ v. take (length v - 1) v) em ∙ ap (λ n. take n ys) ln ∙ take-append_seam rows (row ∷ [])
