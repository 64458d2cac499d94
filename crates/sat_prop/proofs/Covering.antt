-- Clauses that a later one covers, and what stays true where their rows are emptied.
use Rattle.std.proofs.Common.{◌≡◌, ℕ, ◌<◌, ◌≤◌, ◌+◌, ◌-◌, ◌⊎◌, Bool, true, false, List, [], ◌++◌, length, suc, zero, take, drop, get_or, set, refl, sym, subst, ap, ◌∙◌, inl, inr, arith, length-append, length-set, get_or-set_other, get_or-set_same}
use Rattle.std.specs.List.{Contains}
use Rattle.std.proofs.lemmas.Bool.{cases_Bool, cases_eq, both_ways}
use Rattle.std.proofs.lemmas.List.{get_or-drop, get_or_append_left, get_or_default, length-map, length-drop}
use Rattle.std.proofs.lemmas.List.Folds.{Any-from_list_any, list_any_at, list_all_at}
use Rattle.std.proofs.lemmas.List.Elements.{All-contains, All-contains_itself, All-weaker, All-from_get_or}
use Rattle.clause_core.specs.declared.literal.Lit.{Lit}
use Rattle.sat_prop.specs.Trails.{is_literal, among}
use Rattle.sat_prop.specs.Covers.{covers, is_covered, Retired}
use Rattle.clause_core.specs.Literals.{negate}
use Rattle.clause_core.specs.Propagation.{Settled}
use Rattle.sat_prop.specs.declared.watch.Watches.{Watches}
use Rattle.sat_prop.specs.Trails.{AtRest}
use Rattle.sat_prop.specs.Packing.{RowsMatch, pair_of, pairs}
use Rattle.sat_prop.specs.Watches.{AllGuarded, AllListed, AllWatchesIn, Guarded, HasOneLiteral, HasTwo, InShort, LevelsGuarded, Listed, ShortListed, ShortTrue, TrueIn, WatchesIn, cell, watches_at}
use Rattle.sat_prop.proofs.Matching.{pair_at}
use Rattle.sat_prop.proofs.Sweeps.{among_contains, contains_among}
use Rattle.sat_prop.proofs.Ways.{lit_is_same, lit_is_itself}

pub literal_apart : (l m : Lit) → (l ≡ m → ⊥) → is_literal l m ≡ false
literal_apart l m ne =
    elim (cases_Bool (is_literal l m)) [
      | inl on ↦ absurd (ne (lit_is_same l m on))
      | inr off ↦ off
    ]

-- where the clause stands that covers number k
pub covered_where : (cs : List (List Lit)) (k : ℕ) → is_covered cs k ≡ true → (j : ℕ) × (k < j) × (j < length cs) × (covers (get_or cs j []) (get_or cs k []) ≡ true)
covered_where cs k e =
    let h = Any-from_list_any (λ c. covers c (get_or cs k [])) (drop (k + 1) cs) e in
    let n = h.0 in
    let lt : n < length (drop (k + 1) cs) = h.2 in
    let here : get_or cs (k + 1 + n) [] ≡ h.1 = sym (get_or-drop (k + 1) cs n []) ∙ get_or_default (drop (k + 1) cs) n [] h.1 lt ∙ h.3 in
    let P : List Lit → Type 0 = λ c. covers c (get_or cs k []) ≡ true in
    (k + 1 + n, omega arith, omega (arith, lt, length-drop (k + 1) cs), subst P (sym here) h.4)

pub covered_here : (cs : List (List Lit)) (k j : ℕ) → k < j → j < length cs → covers (get_or cs j []) (get_or cs k []) ≡ true → is_covered cs k ≡ true
covered_here cs k j kj lj e =
    let n = j - (k + 1) in
    let en : k + 1 + n ≡ j = omega (arith, kj) in
    let P : ℕ → Type 0 = λ i. covers (get_or cs i []) (get_or cs k []) ≡ true in
    let Q : List Lit → Type 0 = λ c. covers c (get_or cs k []) ≡ true in
    list_any_at (λ c. covers c (get_or cs k [])) (drop (k + 1) cs) n [] (omega (arith, kj, lj, length-drop (k + 1) cs)) (subst Q (sym (get_or-drop (k + 1) cs n [])) (subst P (sym en) e))

-- with more clauses no fewer are covered
pub covered_more : (cs more : List (List Lit)) (k : ℕ) → is_covered cs k ≡ true → is_covered (cs ++ more) k ≡ true
covered_more cs more k e =
    let w = covered_where cs k e in
    let j = w.0 in
    let lj : j < length cs = w.2 in
    let ej : get_or (cs ++ more) j [] ≡ get_or cs j [] = get_or_append_left cs more [] j lj in
    let ek : get_or (cs ++ more) k [] ≡ get_or cs k [] = get_or_append_left cs more [] k (omega (arith, w.1, lj)) in
    let P : List Lit → List Lit → Type 0 = λ c d. covers c d ≡ true in
    let Q : List Lit → Type 0 = λ c. P c (get_or (cs ++ more) k []) in
    let R : List Lit → Type 0 = λ d. P (get_or cs j []) d in
    covered_here (cs ++ more) k j w.1 (omega (arith, lj, length-append cs more)) (subst Q (sym ej) (subst R (sym ek) w.3))

pub uncovered_before : (cs more : List (List Lit)) (k : ℕ) → is_covered (cs ++ more) k ≡ false → is_covered cs k ≡ false
uncovered_before cs more k off =
    elim (cases_Bool (is_covered cs k)) [
      | inl on ↦ absurd (both_ways _ off (covered_more cs more k on))
      | inr no_more ↦ no_more
    ]

pub covers_has : (c d : List Lit) (l : Lit) → covers c d ≡ true → Contains c l → among d l ≡ true
covers_has c d l e h =
    let P : Lit → Type 0 = λ x. among d x ≡ true in
    elim (cases_Bool (among d l)) [
      | inl on ↦ on
      | inr off ↦
          let Q : Lit → Type 0 = λ x. among d x ≡ false in
          absurd (both_ways _ (list_all_at (among d) c h.0 l h.1 (subst Q (sym h.2) off)) e)
    ]

-- what is settled settles each clause that it covers
pub cover_settled : (t : Lit → Bool) (c d : List Lit) → covers c d ≡ true → Settled t c → Settled t d
cover_settled t c d e s =
    let part : (l : Lit) → Contains c l → Contains d l = λ l h. contains_among d l (covers_has c d l e h) in (
      λ all. s.0 (All-weaker (Contains c) (λ m. t (negate m) ≡ true) (λ m h. All-contains (λ x. t (negate x) ≡ true) d m all (part m h)) c (All-contains_itself c)),
      λ l u.
          elim (cases_Bool (among c l)) [
            | inl on ↦ s.1 l (contains_among c l on, All-weaker (Contains c) (λ m. (m ≡ l → ⊥) → t (negate m) ≡ true) (λ m h. All-contains (λ x. (x ≡ l → ⊥) → t (negate x) ≡ true) d m u.1 (part m h)) c (All-contains_itself c))
            | inr off ↦
                let far : (m : Lit) → Contains c m → t (negate m) ≡ true = λ m h.
                All-contains (λ x. (x ≡ l → ⊥) → t (negate x) ≡ true) d m u.1 (part m h) (λ same. both_ways _ off (among_contains c l (subst (Contains c) same h))) in
                absurd (s.0 (All-weaker (Contains c) (λ m. t (negate m) ≡ true) far c (All-contains_itself c)))
          ],
    )

-- where each clause that no later one covers is settled, all are
rest_below : (cs : List (List Lit)) (t : Lit → Bool) → ((k : ℕ) → k < length cs → is_covered cs k ≡ false → Settled t (get_or cs k [])) →
    (n k : ℕ) → k < length cs → length cs ≤ k + n → Settled t (get_or cs k [])
rest_below cs t here zero k lk le = absurd (omega (arith, lk, le))
rest_below cs t here (suc n) k lk le =
    elim (cases_Bool (is_covered cs k)) [
      | inl on ↦
          let w = covered_where cs k on in
          cover_settled t (get_or cs w.0 []) (get_or cs k []) w.3 (rest_below cs t here n w.0 w.2 (omega (arith, w.1, le)))
      | inr off ↦ here k lk off
    ]

pub uncovered_rest : (cs : List (List Lit)) (tr : List Lit) → ((k : ℕ) → k < length cs → is_covered cs k ≡ false → Settled (among tr) (get_or cs k [])) → AtRest cs tr
uncovered_rest cs tr here = All-from_get_or (Settled (among tr)) cs [] (λ k lk. rest_below cs (among tr) here (length cs) k lk (omega arith))

-- a row that is emptied
pub retired_none : (cs rows : List (List Lit)) → Retired cs rows rows
retired_none cs rows = (refl, λ k. inl refl)

pub retired_more : (cs old mid new : List (List Lit)) (k : ℕ) → k < length mid → Retired cs old mid → new ≡ set mid k [] → is_covered cs k ≡ true → Retired cs old new
retired_more cs old mid new k lk r e on =
    let P : List (List Lit) → Type 0 = Retired cs old in
    let here : P (set mid k []) = (
      length-set mid k [] ∙ r.0,
      λ j. elim (cases_eq j k) [
        | inl same ↦
            let Q : ℕ → Type 0 = λ i. (get_or (set mid k []) i [] ≡ get_or old i []) ⊎ ((get_or (set mid k []) i [] ≡ []) × (is_covered cs i ≡ true)) in
            let now : Q k = inr (get_or-set_same mid k [] [] lk, on) in
            subst Q (sym same) now
        | inr ne ↦
            let f : get_or (set mid k []) j [] ≡ get_or mid j [] = rw get_or-set_other refl in
            elim (r.1 j) [
              | inl kept ↦ inl (f ∙ kept)
              | inr gone ↦ inr (f ∙ gone.0, gone.1)
            ]
      ],
    ) in
    subst P (sym e) here

pub retired_on : (cs old mid new : List (List Lit)) → Retired cs old mid → Retired cs mid new → Retired cs old new
retired_on cs old mid new r q = (
  q.0 ∙ r.0,
  λ k. elim (q.1 k) [
    | inl same ↦ elim (r.1 k) [
      | inl kept ↦ inl (same ∙ kept)
      | inr gone ↦ inr (same ∙ gone.0, gone.1)
    ]
    | inr gone ↦ inr gone
  ],
)

-- what holds of each clause and its watches still does, if it holds of covered clauses without two watches
per_retired : (cs old new : List (List Lit)) (P : ℕ → Watches → Type 0) → Retired cs old new →
    ((k : ℕ) (h : Watches) → is_literal h.a h.b ≡ true → is_covered cs k ≡ true → P k h) → ((k : ℕ) → P k (watches_at (pairs old) k)) →
    (k : ℕ) → P k (watches_at (pairs new) k)
per_retired cs old new P r gone before k =
    let Q : Watches → Type 0 = P k in
    elim (r.1 k) [
      | inl same ↦ subst Q (pair_at old k ∙ ap pair_of (sym same) ∙ sym (pair_at new k)) (before k)
      | inr empty ↦
          let e : pair_of [] ≡ watches_at (pairs new) k = ap pair_of (sym empty.0) ∙ sym (pair_at new k) in
          subst Q e (gone k (pair_of []) (lit_is_itself (pair_of []).a) empty.1)
    ]

-- two that are the same are not two
not_two : (h : Watches) → is_literal h.a h.b ≡ true → HasTwo h → ⊥
not_two h on two = both_ways _ two on

pub retired_watches : (cs old new : List (List Lit)) → Retired cs old new → AllWatchesIn cs (pairs old) → AllWatchesIn cs (pairs new)
retired_watches cs old new r ok k =
    per_retired cs old new (λ j h. j < length cs → HasTwo h → WatchesIn h (get_or cs j [])) r (λ j h on _ lj two. absurd (not_two h on two)) ok k

pub retired_guarded : (cs old new : List (List Lit)) (s u : List Lit) → Retired cs old new → AllGuarded cs (pairs old) s u → AllGuarded cs (pairs new) s u
retired_guarded cs old new s u r ok k =
    per_retired cs old new (λ j h. j < length cs → HasTwo h → Guarded s u h (get_or cs j [])) r (λ j h on _ lj two. absurd (not_two h on two)) ok k

pub retired_listed : (cs old new : List (List Lit)) (lists : List (List ℕ)) → Retired cs old new → AllListed (pairs old) lists → AllListed (pairs new) lists
retired_listed cs old new lists r ok k lk =
    let n = length (pairs old) in
    let len : n ≡ length (pairs new) = omega (arith, length-map old pair_of, length-map new pair_of, r.0) in
    per_retired cs old new (λ j h. j < n → HasTwo h → Listed lists (cell h.a) j × Listed lists (cell h.b) j) r (λ j h on _ lj two. absurd (not_two h on two)) ok k (omega (arith, lk, len))

pub retired_short : (cs old new : List (List Lit)) (short : List ℕ) → Retired cs old new → ShortListed cs (pairs old) short → ShortListed cs (pairs new) short
retired_short cs old new short r ok k =
    per_retired cs old new (λ j h. j < length cs → is_literal h.a h.b ≡ true → is_covered cs j ≡ false → HasOneLiteral (get_or cs j []) × InShort short j) r
    (λ j h _ on lj _ off. absurd (both_ways _ off on)) ok k

pub retired_true : (cs old new : List (List Lit)) (u : List Lit) → Retired cs old new → ShortTrue cs (pairs old) u → ShortTrue cs (pairs new) u
retired_true cs old new u r ok k =
    per_retired cs old new (λ j h. j < length cs → is_literal h.a h.b ≡ true → is_covered cs j ≡ false → TrueIn u (get_or cs j [])) r
    (λ j h _ on lj _ off. absurd (both_ways _ off on)) ok k

pub retired_levels : (cs old new : List (List Lit)) (literals : List Lit) (level_starts : List ℕ) → Retired cs old new → LevelsGuarded cs (pairs old) literals level_starts →
    LevelsGuarded cs (pairs new) literals level_starts
retired_levels cs old new literals level_starts r ok i li =
    let low = take (get_or level_starts i 0) literals in
    let o = ok i li in
    (retired_guarded cs old new low low r o.0, retired_true cs old new low r o.1)

pub retired_match : (cs old new : List (List Lit)) → Retired cs old new → RowsMatch cs old → RowsMatch cs new
retired_match cs old new r ok k lk two l =
    elim (r.1 k) [
      | inl same ↦
          let B : List Lit → Type 0 = λ v. HasTwo (pair_of v) in
          ap (λ v. among v l) same ∙ ok k lk (subst B same two) l
      | inr empty ↦
          let B : List Lit → Type 0 = λ v. HasTwo (pair_of v) in
          absurd (not_two (pair_of []) (lit_is_itself (pair_of []).a) (subst B empty.0 two))
    ]
