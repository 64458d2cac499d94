use Rattle.std.proofs.Common.{◌≡◌, ℕ, ◌<◌, ◌≤◌, ◌+◌, Bool, true, false, List, [], ◌∷◌, ◌++◌, length, take, get_or, suc, refl, sym, subst, ap, ◌∙◌, inl, inr, arith, map, replicate}
use Rattle.std.specs.List.{All, Contains}
use Rattle.std.proofs.Math.ListN.{get_or-map}
use Rattle.std.proofs.lemmas.Bool.{cases_Bool, cases_lt, both_ways}
use Rattle.std.proofs.lemmas.List.{take_more, map-append, length-map, get_or-replicate, get_or_past, length-replicate, length-take-le, get_or-take, take-take, get_or_default}
use Rattle.std.proofs.lemmas.List.Elements.{All-contains, All-cons, All-map, All-append, Contains-append_right, Contains-get_or}
use Rattle.clause_core.specs.declared.literal.Lit.{Lit}
use Rattle.clause_core.specs.Literals.{negate, none_lit, at, Within}
use Rattle.clause_core.specs.Propagation.{AllFalse, Follows, Settled}
use Rattle.sat_core.specs.Positions.{Marked}
use Rattle.clause_core.specs.Propagation.{Reaches}
use Rattle.clause_core.proofs.Lists.{negate_negate}
use Rattle.sat_prop.specs.declared.trail.Trail.{Trail}
use Rattle.sat_prop.specs.Trails.{among, is_literal, AtRest, FalseOn, Based}
use Rattle.sat_prop.proofs.Ways.{lit_is_same, lit_is_itself, place_same}
use Rattle.sat_prop.proofs.Sweeps.{reasoned_from}
use Rattle.sat_core.specs.Searching.{decided, PerLevel, LearnedFrom, PlacesFalse, learned_clause, SettledBelow, WatchBelow}
use Rattle.sat_prop.specs.Watches.{Watchable}
use Rattle.sat_core.proofs.Levels.{decided_length, reached, reached_all, conflicting, read_itself, not_below, unset_below, decisions_open}

pub contains_map : {X Y : Type 0} (f : X → Y) (xs : List X) (x : X) → Contains xs x → Contains (map f xs) (f x)
contains_map f xs x h =
    (h.0, omega (arith, h.1, length-map xs f), get_or-map f xs h.0 x ∙ ap f h.2)

pub contains_head : {X : Type 0} (x : X) (xs : List X) → Contains (x ∷ xs) x
contains_head x xs = (0, omega arith, refl)

pub contains_tail : {X : Type 0} (x y : X) (xs : List X) → Contains xs y → Contains (x ∷ xs) y
contains_tail x y xs h = Contains-append_right (x ∷ []) xs y h

-- the clause of the negations of the literals that make a clause false follows
pub learned_follows : (literals : List Lit) (cs : List (List Lit)) (k p : ℕ) (low : List ℕ) → k < length cs →
    PlacesFalse literals cs p low (get_or cs k []) → Follows cs (learned_clause literals p low)
learned_follows literals cs k p low lk false' t all closed =
    let c = learned_clause literals p low in
    let f : ℕ → Lit = λ r. negate (at literals r) in
    let held : (q : ℕ) → Contains c (f q) → t (at literals q) ≡ true = λ q has.
    ap t (sym (negate_negate (at literals q))) ∙ All-contains (λ m. t (negate m) ≡ true) c (f q) all has in
    let out : AllFalse t (get_or cs k []) = false' t closed (held p (contains_head (f p) (map f low)))
    (λ j d lj. held (get_or low j d) (contains_tail (f p) (f (get_or low j d)) (map f low) (contains_map f low (get_or low j d) (Contains-get_or low j d lj)))) in
    inl (k, get_or cs k [], lk, read_itself cs k lk, out)

pub learned_from : (t : Trail) (cs : List (List Lit)) (k p i floor : ℕ) (low : List ℕ) →
    Based t.literals.items t.reasons.items cs → k < length cs → FalseOn t.literals.items (get_or cs k []) →
    ((i : ℕ) → i < length t.level_starts.items → AtRest cs (take (get_or t.level_starts.items i 0) t.literals.items)) →
    length t.level_starts.items ≡ i + 1 → floor ≡ get_or t.level_starts.items i 0 →
    PlacesFalse t.literals.items cs p low (get_or cs k []) → floor ≤ p → p < length t.literals.items → All (λ q. q < floor) low →
    LearnedFrom cs (decided t.literals.items t.level_starts.items) (learned_clause t.literals.items p low)
learned_from t cs k p i floor low based lk out rest ls lf false' le lp lows =
    let tr = t.literals.items in
    let level_starts = t.level_starts.items in
    let ds = decided tr level_starts in
    let c = learned_clause tr p low in
    let reasons = reasoned_from tr t.reasons.items cs based in
    let li : i < length level_starts = omega arith in
    let lfl : floor < length tr = omega (arith, lf, t.in_trail i li) in
    let start_le : get_or level_starts i 0 ≤ p = omega (arith, le) in
    let m = negate (at tr p) in
    let all_reached : All (λ m. Reaches cs ds (negate m)) c =
    All-cons (λ m. Reaches cs ds (negate m)) m (map (λ r. negate (at tr r)) low)
    (let P : Lit → Type 0 = Reaches cs ds in subst P (sym (negate_negate (at tr p))) (reached_all tr t.reasons.items level_starts cs reasons t.roots p lp))
    (All-map (λ m. Reaches cs ds (negate m)) (λ r. negate (at tr r)) low (λ j d lj.
    let q = get_or low j d in
    let lq : q < length tr = omega (arith, lows j d lj) in
    let P : Lit → Type 0 = Reaches cs ds in
    subst P (sym (negate_negate (at tr q))) (reached_all tr t.reasons.items level_starts cs reasons t.roots q lq))) in
    let below_reached : All (λ k. (k ≡ m → ⊥) → Reaches cs (take i ds) (negate k)) c =
    All-cons (λ k. (k ≡ m → ⊥) → Reaches cs (take i ds) (negate k)) m (map (λ r. negate (at tr r)) low)
    (λ ne. absurd (ne refl))
    (All-map (λ k. (k ≡ m → ⊥) → Reaches cs (take i ds) (negate k)) (λ r. negate (at tr r)) low (λ j d lj ne.
    let q = get_or low j d in
    let lq : q < floor = lows j d lj in
    let P : Lit → Type 0 = Reaches cs (take i ds) in
    subst P (sym (negate_negate (at tr q))) (reached tr t.reasons.items level_starts cs reasons t.roots t.rising i li floor (omega arith) (omega arith) q lq))) in
    let below = unset_below tr t.positions.items level_starts cs i p t.placed t.rising t.in_trail li (rest i li) start_le lp in (
      i,
      omega (arith, decided_length tr level_starts),
      decisions_open tr t.positions.items level_starts cs t.placed t.rising t.in_trail rest,
      conflicting tr t.reasons.items level_starts cs k reasons t.roots lk out,
      learned_follows tr cs k p low lk false',
      all_reached,
      (
        m,
        contains_head m (map (λ r. negate (at tr r)) low),
        (below m refl, below (negate m) refl),
        below_reached,
      ),
    )

-- a clause with two literals that are not false is settled
pub two_settled : (t : Lit → Bool) (c : List Lit) (m k : Lit) → Contains c m → Contains c k → t (negate m) ≡ false → t (negate k) ≡ false →
    (m ≡ k → ⊥) → Settled t c
two_settled t c m k hm hk fm fk ne = (
  λ all. both_ways _ fm (All-contains (λ l. t (negate l) ≡ true) c m all hm),
  λ l u.
      elim (cases_Bool (is_literal m l)) [
        | inl on ↦
            let same : m ≡ l = lit_is_same m l on in
            let nk : k ≡ l → ⊥ = λ e. ne (same ∙ sym e) in
            absurd (both_ways _ fk (All-contains (λ x. (x ≡ l → ⊥) → t (negate x) ≡ true) c k u.1 hk nk))
        | inr off ↦
            let nm : m ≡ l → ⊥ = λ e. both_ways _ off (rw e (lit_is_itself l)) in
            absurd (both_ways _ fm (All-contains (λ x. (x ≡ l → ⊥) → t (negate x) ≡ true) c m u.1 hm nm))
      ],
)

pub learned_settled : (t : Trail) (p floor s j : ℕ) (low : List ℕ) → floor ≤ p → p < length t.literals.items → floor < length t.literals.items → s ≤ floor →
    All (λ q. q < floor) low → j < length low → s ≤ get_or low j 0 →
    Settled (among (take s t.literals.items)) (learned_clause t.literals.items p low)
learned_settled t p floor s j low le lp lf ls lows lj sj =
    let tr = t.literals.items in
    let q = get_or low j 0 in
    let lq : q < floor = lows j 0 lj in
    let lqt : q < length tr = omega arith in
    let rest = map (λ r. negate (at tr r)) low in
    let m = negate (at tr p) in
    let k = negate (at tr q) in
    two_settled (among (take s tr)) (learned_clause tr p low) m k
    (contains_head m rest)
    (contains_tail m k rest (contains_map (λ r. negate (at tr r)) low q (Contains-get_or low j 0 lj)))
    (not_below tr t.positions.items s p (negate m) t.placed (omega arith) lp (omega arith) refl)
    (not_below tr t.positions.items s q (negate k) t.placed (omega arith) lqt (omega arith) refl)
    (λ e.
    let v : (at tr p).var ≡ (at tr q).var = ap (λ (x : Lit). x.var) e in
    let same : p ≡ q = place_same tr t.positions.items p q t.placed lp lqt v in
    omega arith)

pub differ : (l m : Lit) → (l ≡ m → ⊥) → is_literal l m ≡ false
differ l m ne = elim (cases_Bool (is_literal l m)) [ inl on ↦ absurd (ne (lit_is_same l m on)) | inr off ↦ off ]

-- the clause's first literal and that of low's entry j are watches at each boundary up to that entry
pub learned_watch : (t : Trail) (p floor s j : ℕ) (low : List ℕ) → floor ≤ p → p < length t.literals.items → floor < length t.literals.items → s ≤ floor →
    All (λ q. q < floor) low → j < length low → s ≤ get_or low j 0 →
    (j + 1 < length (learned_clause t.literals.items p low))
    × (is_literal (at (learned_clause t.literals.items p low) 0) (at (learned_clause t.literals.items p low) (j + 1)) ≡ false)
    × (among (take s t.literals.items) (negate (at (learned_clause t.literals.items p low) 0)) ≡ false)
    × (among (take s t.literals.items) (negate (at (learned_clause t.literals.items p low) (j + 1))) ≡ false)
learned_watch t p floor s j low le lp lf ls lows lj sj =
    let tr = t.literals.items in
    let q = get_or low j 0 in
    let lq : q < floor = lows j 0 lj in
    let lqt : q < length tr = omega arith in
    let f : ℕ → Lit = λ r. negate (at tr r) in
    let c = learned_clause tr p low in
    let m = negate (at tr p) in
    let k = negate (at tr q) in
    let up : j + 1 ≡ suc j = omega arith in
    let e : at c (j + 1) ≡ k = ap (at c) up ∙ get_or_default (map f low) j none_lit (f 0) (omega (arith, lj, length-map low f)) ∙ get_or-map f low j 0 in
    let R : Lit → Type 0 = λ x. (is_literal m x ≡ false) × (among (take s tr) (negate x) ≡ false) in
    let ne : m ≡ k → ⊥ = λ g.
    let v : (at tr p).var ≡ (at tr q).var = ap (λ (x : Lit). x.var) g in
    let same : p ≡ q = place_same tr t.positions.items p q t.placed lp lqt v in
    omega arith in
    let here : R k = (differ m k ne, not_below tr t.positions.items s q (negate k) t.placed (omega arith) lqt (omega arith) refl) in
    let r : R (at c (j + 1)) = subst R (sym e) here in
    (omega (arith, lj, length-map low f), r.0, not_below tr t.positions.items s p (negate m) t.placed (omega arith) lp (omega arith) refl, r.1)

pub watchable_after : (t : Trail) (n : ℕ) (c : List Lit) (w : ℕ) → n < length t.level_starts.items → WatchBelow t.literals.items t.level_starts.items n c w →
    Watchable (take (get_or t.level_starts.items n 0) t.literals.items) (take n t.level_starts.items) c w
watchable_after t n c w ln below i li =
    let level_starts = t.level_starts.items in
    let literals = t.literals.items in
    let lt : i < n = omega (arith, li, length-take-le n level_starts (omega arith)) in
    let e : get_or (take n level_starts) i 0 ≡ get_or level_starts i 0 = get_or-take n level_starts i 0 lt in
    let s = get_or level_starts i 0 in
    let le : s ≤ get_or level_starts n 0 = omega (arith, t.rising i n lt ln) in
    let b : take s (take (get_or level_starts n 0) literals) ≡ take s literals = take-take s (get_or level_starts n 0) literals le in
    let P : List Lit → Type 0 = λ x. (w < length c) × (is_literal (at c 0) (at c w) ≡ false) × (among x (negate (at c 0)) ≡ false) × (among x (negate (at c w)) ≡ false) in
    let Q : ℕ → Type 0 = λ x. P (take x (take (get_or level_starts n 0) literals)) in
    let h : Q s = subst P (sym b) (below i lt) in
    subst Q (sym e) h

pub learned_within : (vars p : ℕ) (tr : List Lit) (low : List ℕ) → Within vars tr → p < length tr → All (λ q. q < length tr) low → Within vars (learned_clause tr p low)
learned_within vars p tr low w lp lows =
    All-cons (λ l. l.var < vars) (negate (at tr p)) (map (λ r. negate (at tr r)) low) (w p none_lit lp)
    (All-map (λ l. l.var < vars) (λ r. negate (at tr r)) low (λ j d lj. w (get_or low j d) none_lit (lows j d lj)))

pub learned_more : (tr : List Lit) (p i : ℕ) (low : List ℕ) → i < length low →
    learned_clause tr p (take (i + 1) low) ≡ learned_clause tr p (take i low) ++ negate (at tr (get_or low i 0)) ∷ []
learned_more tr p i low lt =
    let e : take (i + 1) low ≡ take i low ++ get_or low i 0 ∷ [] = take_more low i 0 lt in
    let f : map (λ r. negate (at tr r)) (take i low ++ get_or low i 0 ∷ []) ≡ map (λ r. negate (at tr r)) (take i low) ++ negate (at tr (get_or low i 0)) ∷ [] = map-append _ _ _ in
    ap (learned_clause tr p) e ∙ ap (λ xs. negate (at tr p) ∷ xs) f

pub falses_unmarked : (n q : ℕ) → Marked (replicate n false) q → ⊥
falses_unmarked n q m =
    elim (cases_lt q n) [
      | inl lt ↦ both_ways _ (get_or-replicate n q false false lt) m
      | inr ge ↦ both_ways _ (get_or_past (replicate n false) q false (omega (arith, length-replicate {A = Bool} n false))) m
    ]

-- the open conflict
pub settled_open : (literals : List Lit) (cs : List (List Lit)) (k s : ℕ) → k < length cs → AtRest cs (take s literals) → AllFalse (among (take s literals)) (get_or cs k []) → ⊥
settled_open literals cs k s lk rest all = (rest k [] lk).0 all

pub rest_after : (cs : List (List Lit)) (c literals : List Lit) (level_starts : List ℕ) (n : ℕ) → n < length level_starts →
    ((i j : ℕ) → i < j → j < length level_starts → get_or level_starts i 0 < get_or level_starts j 0) →
    ((i : ℕ) → i < length level_starts → get_or level_starts i 0 < length literals) →
    ((i : ℕ) → i < length level_starts → AtRest cs (take (get_or level_starts i 0) literals)) → SettledBelow literals level_starts n c →
    PerLevel (λ low _. AtRest (cs ++ c ∷ []) low) (take (get_or level_starts n 0) literals) (take n level_starts)
rest_after cs c literals level_starts n ln up ins rest below i li =
    let lt : i < n = omega (arith, li, length-take-le n level_starts (omega arith)) in
    let ls : i < length level_starts = omega arith in
    let e : get_or (take n level_starts) i 0 ≡ get_or level_starts i 0 = get_or-take n level_starts i 0 lt in
    let s = get_or level_starts i 0 in
    let le : s ≤ get_or level_starts n 0 = omega (arith, up i n lt ln) in
    let b : take s (take (get_or level_starts n 0) literals) ≡ take s literals = take-take s (get_or level_starts n 0) literals le in
    let g : AtRest (cs ++ c ∷ []) (take s literals) =
    All-append (Settled (among (take s literals))) cs (c ∷ []) (rest i ls) (All-cons (Settled (among (take s literals))) c [] (below i lt) (λ k d l. absurd (omega (arith, l)))) in
    let P : List Lit → Type 0 = AtRest (cs ++ c ∷ []) in
    let Q : ℕ → Type 0 = λ x. AtRest (cs ++ c ∷ []) (take x (take (get_or level_starts n 0) literals)) in
    let h : Q s = subst P (sym b) g in
    subst Q (sym e) h
