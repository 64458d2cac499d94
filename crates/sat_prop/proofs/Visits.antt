use Rattle.std.proofs.Common.{◌≡◌, ℕ, ◌<◌, ◌≤◌, ◌*◌, ◌^◌, Bool, true, false, eqb, List, [], ◌∷◌, ◌++◌, Some, length, map, get_or, refl, sym, subst, ap, ◌∙◌, inl, inr, ◌⊎◌, arith, set, get_or-set_other, get_or-set_same, length-append, length-set}
use Rattle.std.specs.List.{list_any}
use Rattle.std.proofs.Math.Seq.{get_or-append_seam}
use Rattle.std.proofs.lemmas.Bool.{cases_eq, both_ways}
use Rattle.std.proofs.lemmas.List.{get_or_append_left, get_or_default, length-map, length-take}
use Rattle.std.proofs.lemmas.List.Elements.{All-contains}
use Rattle.clause_core.specs.declared.literal.Lit.{Lit}
use Rattle.clause_core.specs.Literals.{Within, negate, none_lit, at}
use Rattle.clause_core.specs.Values.{holds}
use Rattle.sat_prop.specs.declared.watch.Watches.{Watches}
use Rattle.sat_prop.specs.declared.watch.Finding.TheVariants.{Move}
use Rattle.sat_prop.specs.declared.trail.Trail.{Trail}
use Rattle.sat_prop.specs.Moves.{Extends}
use Rattle.sat_prop.specs.Trails.{is_literal, among}
use Rattle.sat_prop.specs.Watches.{one, none_watches, watches_at, TrueIn, Guarded, HasTwo, WatchesIn, AllWatchesIn, Listed, AllListed, cell, DoneWith, Kept, FindingSays, OtherSays}
use Rattle.sat_prop.specs.Packing.{pair_of, pairs, RowsMatch}
use Rattle.sat_prop.proofs.Matching.{pair_at}
use Rattle.sat_prop.proofs.Ways.{lit_is_itself, among_where, among_here, at_take}
use Rattle.sat_prop.specs.Words.{literal_of}
use Rattle.sat_prop.proofs.Packed.{literal_cell}
use Rattle.sat_prop.proofs.Sweeps.{contains_among}
use Rattle.sat_prop.proofs.Watching.{list_at, list_where, cell_same, true_grows}

pub one_le : (b : Bool) → one b ≤ 1
one_le true = omega arith
one_le false = omega arith

pub cell_now : (lists : List (List ℕ)) (c : ℕ) (xs : List ℕ) → c < length lists → get_or (set lists c xs) c [] ≡ xs
cell_now lists c xs lt = get_or-set_same lists c xs [] lt

pub done_true : (cs : List (List Lit)) (watches : List Watches) (literals : List Lit) (f : Lit) (k : ℕ) → TrueIn literals (get_or cs k []) → DoneWith cs watches literals f k
done_true cs watches literals f k t lk big = (λ _. t, λ _. t)

pub done_grows : (cs : List (List Lit)) (watches : List Watches) (u w : List Lit) (f : Lit) (k : ℕ) → ((l : Lit) → among u l ≡ true → among w l ≡ true) →
    DoneWith cs watches u f k → DoneWith cs watches w f k
done_grows cs watches u w f k g d lk big =
    let h = d lk big in (λ e. true_grows u w (get_or cs k []) g (h.0 e), λ e. true_grows u w (get_or cs k []) g (h.1 e))

-- a watch moves
pub head_new : (watches : List Watches) (k : ℕ) (h : Watches) → k < length watches → watches_at (set watches k h) k ≡ h
head_new watches k h lt = get_or-set_same watches k h none_watches lt

pub head_other : (watches : List Watches) (k j : ℕ) (h : Watches) → (j ≡ k → ⊥) → watches_at (set watches k h) j ≡ watches_at watches j
head_other watches k j h ne = rw get_or-set_other refl

pub heads_move : (cs : List (List Lit)) (watches : List Watches) (k : ℕ) (g o : Lit) → k < length watches → among (get_or cs k []) g ≡ true → among (get_or cs k []) o ≡ true →
    AllWatchesIn cs watches → AllWatchesIn cs (set watches k (record { a = g; b = o }))
heads_move cs watches k g o lk hg ho ok j lj big =
    let new : Watches = record { a = g; b = o } in
    elim (cases_eq j k) [
      | inl same ↦
          let P : ℕ → Type 0 = λ x. WatchesIn (watches_at (set watches k new) x) (get_or cs x []) in
          let Q : Watches → Type 0 = λ x. WatchesIn x (get_or cs k []) in
          let here : Q new = (hg, ho) in
          subst P (sym same) (subst Q (sym (head_new watches k new lk)) here)
      | inr ne ↦
          let Q : Watches → Type 0 = λ x. WatchesIn x (get_or cs j []) in
          let B : Watches → Type 0 = HasTwo in
          subst Q (sym (head_other watches k j new ne)) (ok j lj (subst B (head_other watches k j new ne) big))
    ]

pub bigs_move : (watches : List Watches) (k : ℕ) (g o : Lit) → k < length watches → is_literal g o ≡ false → (j : ℕ) → HasTwo (watches_at watches j) → HasTwo (watches_at (set watches k (record { a = g; b = o })) j)
bigs_move watches k g o lk apart j big =
    let new : Watches = record { a = g; b = o } in
    let B : Watches → Type 0 = HasTwo in
    elim (cases_eq j k) [
      | inl same ↦
          let e : watches_at (set watches k new) j ≡ new = rw same (head_new watches k new lk) in
          let here : B new = apart in
          subst B (sym e) here
      | inr ne ↦ subst B (sym (head_other watches k j new ne)) big
    ]

pub kept_move : (cs : List (List Lit)) (watches : List Watches) (k : ℕ) (g o : Lit) (literals : List Lit) → k < length watches → HasTwo (watches_at watches k) →
    ((o ≡ (watches_at watches k).b) ⊎ (o ≡ (watches_at watches k).a)) → among literals (negate g) ≡ false → Kept cs watches (set watches k (record { a = g; b = o })) literals
kept_move cs watches k g o literals lk big which off s u part old j lj bigj =
    let new : Watches = record { a = g; b = o } in
    let c = get_or cs j [] in
    let G : Watches → Type 0 = λ x. Guarded s u x c in
    elim (cases_eq j k) [
      | inl same ↦
          let P : ℕ → Type 0 = λ x. HasTwo (watches_at watches x) in
          let was = old j lj (subst P (sym same) big) in
          let Q : ℕ → Type 0 = λ x. Guarded s u (watches_at watches x) c in
          let here : Q k = subst Q same was in
          let O : Lit → Type 0 = λ x. among s (negate x) ≡ true → TrueIn u c in
          let right : O o = elim which [ inl e ↦ subst O (sym e) here.1 | inr e ↦ subst O (sym e) here.0 ] in
          let now : G new = (λ on. absurd (both_ways _ off (part (negate g) on)), right) in
          let e : watches_at (set watches k new) j ≡ new = rw same (head_new watches k new lk) in
          subst G (sym e) now
      | inr ne ↦
          let B : Watches → Type 0 = HasTwo in
          let e = head_other watches k j new ne in
          subst G (sym e) (old j lj (subst B e bigj))
    ]

pub done_move : (cs : List (List Lit)) (watches : List Watches) (k : ℕ) (g o f : Lit) (literals : List Lit) (e : ℕ) → k < length watches → (g ≡ f → ⊥) → (o ≡ f → ⊥) →
    DoneWith cs watches literals f e → DoneWith cs (set watches k (record { a = g; b = o })) literals f e
done_move cs watches k g o f literals e lk ng mo h lc big =
    let new : Watches = record { a = g; b = o } in
    let c = get_or cs e [] in
    let W : Watches → Type 0 = λ x. ((x.a ≡ f) → TrueIn literals c) × ((x.b ≡ f) → TrueIn literals c) in
    elim (cases_eq e k) [
      | inl same ↦
          let here : W new = (λ q. absurd (ng q), λ q. absurd (mo q)) in
          let s : watches_at (set watches k new) e ≡ new = rw same (head_new watches k new lk) in
          subst W (sym s) here
      | inr ne ↦
          let B : Watches → Type 0 = HasTwo in
          let s = head_other watches k e new ne in
          subst W (sym s) (h lc (subst B s big))
    ]

pub list_push : (xs : List ℕ) (k j : ℕ) → list_any (λ x. eqb x j) xs ≡ true → list_any (λ x. eqb x j) (xs ++ k ∷ []) ≡ true
list_push xs k j e =
    let h = list_where xs j e in
    list_at (xs ++ k ∷ []) j h.0 (omega (arith, h.1, length-append xs (k ∷ []))) (get_or_append_left xs (k ∷ []) 0 h.0 h.1 ∙ h.2)

pub listed_push : (lists : List (List ℕ)) (n k m j : ℕ) → n < length lists → Listed lists m j → Listed (set lists n (get_or lists n [] ++ k ∷ [])) m j
listed_push lists n k m j ln l =
    let Q : List ℕ → Type 0 = λ x. list_any (λ y. eqb y j) x ≡ true in
    elim (cases_eq m n) [
      | inl same ↦
          let L : ℕ → Type 0 = λ x. Listed lists x j in
          let M : ℕ → Type 0 = λ x. Listed (set lists n (get_or lists n [] ++ k ∷ [])) x j in
          subst M (sym same) (subst Q (sym (cell_now lists n (get_or lists n [] ++ k ∷ []) ln)) (list_push (get_or lists n []) k j (subst L same l)))
      | inr ne ↦
          let e : get_or (set lists n (get_or lists n [] ++ k ∷ [])) m [] ≡ get_or lists m [] = rw get_or-set_other refl in
          subst Q (sym e) l
    ]

pub lists_move : (watches : List Watches) (lists : List (List ℕ)) (k : ℕ) (g o : Lit) → k < length watches → cell g < length lists → HasTwo (watches_at watches k) →
    ((o ≡ (watches_at watches k).b) ⊎ (o ≡ (watches_at watches k).a)) → AllListed watches lists →
    AllListed (set watches k (record { a = g; b = o })) (set lists (cell g) (get_or lists (cell g) [] ++ k ∷ []))
lists_move watches lists k g o lk lg big which ok j lj bigj =
    let new : Watches = record { a = g; b = o } in
    let lists' = set lists (cell g) (get_or lists (cell g) [] ++ k ∷ []) in
    let W : Watches → Type 0 = λ x. Listed lists' (cell x.a) j × Listed lists' (cell x.b) j in
    elim (cases_eq j k) [
      | inl same ↦
          let old = ok k lk big in
          let Q : List ℕ → Type 0 = λ x. list_any (λ y. eqb y k) x ≡ true in
          let xs = get_or lists (cell g) [] in
          let first : Listed lists' (cell g) k = subst Q (sym (cell_now lists (cell g) (xs ++ k ∷ []) lg))
          (list_at (xs ++ k ∷ []) k (length xs) (omega (arith, length-append xs (k ∷ []))) (get_or-append_seam xs k [] 0)) in
          let O : Lit → Type 0 = λ x. Listed lists' (cell x) k in
          let second : O o = elim which [
            | inl e ↦ subst O (sym e) (listed_push lists (cell g) k (cell (watches_at watches k).b) k lg old.1)
            | inr e ↦ subst O (sym e) (listed_push lists (cell g) k (cell (watches_at watches k).a) k lg old.0)
          ] in
          let V : ℕ → Type 0 = λ n. Listed lists' (cell g) n × Listed lists' (cell o) n in
          let e : watches_at (set watches k new) j ≡ new = rw same (head_new watches k new lk) in
          let here : W new = subst V (sym same) (first, second) in
          subst W (sym e) here
      | inr ne ↦
          let B : Watches → Type 0 = HasTwo in
          let e = head_other watches k j new ne in
          let old = ok j (omega (arith, lj, length-set watches k new)) (subst B e bigj) in
          subst W (sym e) (listed_push lists (cell g) k (cell (watches_at watches j).a) j lg old.0, listed_push lists (cell g) k (cell (watches_at watches j).b) j lg old.1)
    ]

pub cell_in : (l : Lit) (v : ℕ) → l.var < v → cell l < 2 * v
cell_in l v lt = omega (arith, one_le l.positive)

pub apart_from : (h : Watches) (f : Lit) (n : ℕ) → n ≡ cell f → (HasTwo h → (h.a ≡ f → ⊥) × (h.b ≡ f → ⊥)) → HasTwo h → (cell h.a ≡ n → ⊥) × (cell h.b ≡ n → ⊥)
apart_from h f n e far big = (λ q. (far big).0 (cell_same h.a f (q ∙ e)), λ q. (far big).1 (cell_same h.b f (q ∙ e)))

pub went_grows : (old new : Trail) → Extends old new → (l : Lit) → among old.literals.items l ≡ true → among new.literals.items l ≡ true
went_grows old new w l on =
    let h = among_where old.literals.items l on in
    let le : length old.literals.items ≤ length new.literals.items = omega (arith, ap length w.prefix, length-take (length old.literals.items) new.literals.items) in
    let e : at new.literals.items h.0 ≡ l = sym (at_take new.literals.items (length old.literals.items) h.0 h.1) ∙ ap (λ xs. at xs h.0) w.prefix ∙ h.2 in
    among_here new.literals.items h.0 l (omega (arith, h.1, le)) e

-- the row of a clause that has two watches has its literals
pub matched : (cs rows : List (List Lit)) (k : ℕ) → k < length cs → RowsMatch cs rows → HasTwo (watches_at (pairs rows) k) →
    (l : Lit) → among (get_or rows k []) l ≡ among (get_or cs k []) l
matched cs rows k lc ok big = let B : Watches → Type 0 = HasTwo in ok k lc (subst B (pair_at rows k) big)

-- which of a row's first two literals is `f`, where the other is `o`
pub beside_which : (row : List Lit) (f o : Lit) → 1 < length row → HasTwo (pair_of row) × (((pair_of row).a ≡ f) × (o ≡ (pair_of row).b) ⊎ ((pair_of row).b ≡ f) × (o ≡ (pair_of row).a)) →
    ((at row 0 ≡ f) × (o ≡ at row 1)) ⊎ ((at row 1 ≡ f) × (o ≡ at row 0))
beside_which row f o two said =
    let e : get_or row 1 (at row 0) ≡ at row 1 = get_or_default row 1 (at row 0) none_lit two in
    elim said.1 [
      | inl w ↦ inl (w.0, w.1 ∙ e)
      | inr w ↦ inr (sym e ∙ w.0, w.1)
    ]

pub move_facts : (cs rows : List (List Lit)) (t : Trail) (k j : ℕ) (g o : Lit) (row : List Lit) (v : List ℕ) → row ≡ get_or rows k [] → v ≡ t.values.items →
    ((l : Lit) → among (get_or rows k []) l ≡ among (get_or cs k []) l) → FindingSays (holds v) row o (Move g j) →
    (among (get_or cs k []) g ≡ true) × (among t.literals.items (negate g) ≡ false) × (is_literal g o ≡ false)
    × ((j < length (get_or rows k [])) × (1 < j) × (at (get_or rows k []) j ≡ g))
move_facts cs rows t k j g o row v er ev same said =
    let P : List Lit → Type 0 = λ x. (j < length x) × (1 < j) × (at x j ≡ g) in
    let Q : List ℕ → Type 0 = λ x. holds x (negate g) ≡ false in
    let place : P (get_or rows k []) = subst P er said.0 in
    (sym (same g) ∙ among_here (get_or rows k []) j g place.0 place.2, t.values_ok (negate g) ∙ subst Q ev said.1, said.2, place)

-- what is known of the clause in hand: `f` is one of its two watches, and `o` the other
pub record InHand (cs rows : List (List Lit)) (k : ℕ) (f o : Lit) : Type 0 where
  pub here : k < length cs
  pub paired : k < length (pairs rows)
  pub two : HasTwo (watches_at (pairs rows) k)
  pub on : among (get_or cs k []) o ≡ true
  pub which : (o ≡ (watches_at (pairs rows) k).b) ⊎ (o ≡ (watches_at (pairs rows) k).a)
  pub apart : o ≡ f → ⊥
  pub same : (l : Lit) → among (get_or rows k []) l ≡ among (get_or cs k []) l
  pub said : HasTwo (pair_of (get_or rows k [])) × (((pair_of (get_or rows k [])).a ≡ f) × (o ≡ (pair_of (get_or rows k [])).b) ⊎ ((pair_of (get_or rows k [])).b ≡ f) × (o ≡ (pair_of (get_or rows k [])).a))

pub in_hand : (cs rows : List (List Lit)) (words : List ℕ) (k : ℕ) (f o : Lit) (fallen other : ℕ) → map literal_of words ≡ get_or rows k [] → k < length rows → length rows ≡ length cs →
    AllWatchesIn cs (pairs rows) → RowsMatch cs rows → fallen ≡ cell f → o ≡ literal_of other →
    OtherSays (pair_of (map literal_of words)) (literal_of fallen) (Some (literal_of other)) → InHand cs rows k f o
in_hand cs rows words k f o fallen other row lr len ok match ef eo says =
    let lp : k < length (pairs rows) = omega (arith, lr, length-map rows pair_of) in
    let lc : k < length cs = omega (arith, lr, len) in
    let O : List Lit → Lit → Lit → Type 0 = λ r x y. OtherSays (pair_of r) x (Some y) in
    let A : List Lit → Type 0 = λ r. O r (literal_of fallen) (literal_of other) in
    let B : Lit → Type 0 = λ x. O (get_or rows k []) x (literal_of other) in
    let C : Lit → Type 0 = O (get_or rows k []) f in
    let said : C o = subst C (sym eo) (subst B (ap literal_of ef ∙ literal_cell f) (subst A row says)) in
    let W : Watches → Type 0 = λ h. HasTwo h × ((h.a ≡ f) × (o ≡ h.b) ⊎ (h.b ≡ f) × (o ≡ h.a)) in
    let w : W (watches_at (pairs rows) k) = subst W (sym (pair_at rows k)) said in
    let h = watches_at (pairs rows) k in
    let differ : h.a ≡ h.b → ⊥ = λ s. both_ways _ w.0 (rw s (lit_is_itself h.b)) in
    let both = ok k lc w.0 in
    let P : Lit → Type 0 = λ x. among (get_or cs k []) x ≡ true in
    record {
      here = lc;
      paired = lp;
      two = w.0;
      on = elim w.1 [
        | inl u ↦ subst P (sym u.1) both.1
        | inr u ↦ subst P (sym u.1) both.0
      ];
      which = elim w.1 [
        | inl u ↦ inl u.1
        | inr u ↦ inr u.1
      ];
      apart = elim w.1 [
        | inl u ↦ λ q. differ (u.0 ∙ sym q ∙ u.1)
        | inr u ↦ λ q. differ (sym u.1 ∙ q ∙ sym u.0)
      ];
      same = matched cs rows k lc match w.0;
      said = said;
    }

-- the variable and the number of a literal of a clause
pub var_in : (c : List Lit) (n : ℕ) (l : Lit) → Within n c → among c l ≡ true → l.var < n
var_in c n l within on = All-contains (λ x. x.var < n) c l within (contains_among c l on)

pub low_cell : (c : List Lit) (n : ℕ) (l : Lit) → Within n c → among c l ≡ true → 2 * n < 2 ^ 32 → cell l < 2 ^ 32
low_cell c n l within on room = let v = var_in c n l within on in omega (arith, cell_in l n v, room)
