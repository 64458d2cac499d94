-- What a search from one node has seen.
use Rattle.std.proofs.Common.{◌≡◌, ◌≢◌, ◌⊎◌, inl, inr, ℕ, zero, suc, ◌<◌, ◌≤◌, ◌+◌, ◌*◌, Bool, true, false, sum_by, List, [], ◌∷◌, ◌++◌, length, get_or, set, replicate, take, subst, sym, refl, ap, ◌∙◌, All, Contains, arith, get_or-set_other, length-set, length-append}
use Rattle.std.proofs.lemmas.Bool.{cases_eq}
use Rattle.std.proofs.lemmas.List.{get_or-set_same, get_or_default}
use Rattle.std.proofs.lemmas.List.Elements.{All-more, All-contains, Contains-push, Contains-push_cases, Contains-append_left, Contains-get_or}
use Rattle.std.proofs.lemmas.Grind.{take_at_read}
use Rattle.std.proofs.lemmas.List.Sums.{sum_by-set}
use Rattle.digraph.specs.Cycles.{Closed, Edge, Walk, Leads, successors}
use Rattle.digraph.specs.Reach.{MarksReached, Spread, Reached, seen_at, unseen, one}

pub spread_none : (s : List Bool) (p vs : List ℕ) → vs ≡ [] → Spread vs s p s p
spread_none s p vs is =
    let P : List ℕ → Type 0 = λ ys. Spread ys s p s p in
    subst P (sym is) (record {
      long = refl;
      stays = λ v h. h;
      these = λ k d lt. absurd (omega (arith, lt));
      only = λ v h. inl h;
      pends = λ v h. inl h;
      waits = λ v h. h;
      from = λ v h. inl h;
      less = omega arith;
    })

wider : (vs : List ℕ) (i v : ℕ) → i < length vs → Contains (take i vs) v → Contains (take (i + 1) vs) v
wider vs i v lt h =
    let P : List ℕ → Type 0 = λ ys. Contains ys v in
    subst P (sym (take_at_read vs i 0 lt).1) (Contains-append_left (take i vs) (get_or vs i 0 ∷ []) v h)

newest : (vs : List ℕ) (i : ℕ) → i < length vs → Contains (take (i + 1) vs) (get_or vs i 0)
newest vs i lt =
    let P : List ℕ → Type 0 = λ ys. Contains ys (get_or vs i 0) in
    subst P (sym (take_at_read vs i 0 lt).1) (Contains-push (take i vs) (get_or vs i 0))

module _ (vs : List ℕ) (i : ℕ) (s s' : List Bool) (p p' : List ℕ) (at : Spread (take i vs) s p s' p') (lt : i < length vs) where
  -- the next is seen already
  pub spread_old : seen_at s' (get_or vs i 0) ≡ true → Spread (take (i + 1) vs) s p s' p'
  spread_old old = record {
    long = at.long;
    stays = at.stays;
    these = All-more (λ v. seen_at s' v ≡ true) vs i 0 lt at.these old;
    only = λ v h. elim (at.only v h) [ inl a ↦ inl a | inr b ↦ inr (wider vs i v lt b) ];
    pends = at.pends;
    waits = at.waits;
    from = λ v h. elim (at.from v h) [ inl a ↦ inl a | inr b ↦ inr (wider vs i v lt b) ];
    less = at.less;
  }

module _ (vs : List ℕ) (i : ℕ) (s s' : List Bool) (p p' : List ℕ) (at : Spread (take i vs) s p s' p') (lt : i < length vs)
    (x : ℕ) (is : x ≡ get_or vs i 0) (in' : x < length s') (new : seen_at s' x ≡ false) where
  now : (v : ℕ) → seen_at s' v ≡ true → seen_at (set s' x true) v ≡ true
  now v h = elim (cases_eq v x) [
    | inl e ↦ absurd (let f : true ≡ false = sym h ∙ ap (seen_at s') e ∙ new in cc)
    | inr ne ↦ get_or-set_other s' x v true false ne ∙ h
  ]

  before : (v : ℕ) → seen_at (set s' x true) v ≡ true → (seen_at s' v ≡ true) ⊎ (v ≡ x)
  before v h = elim (cases_eq v x) [
    | inl e ↦ inr e
    | inr ne ↦ inl (sym (get_or-set_other s' x v true false ne) ∙ h)
  ]

  has : (v : ℕ) → v ≡ x → Contains (take (i + 1) vs) v
  has v e = let P : ℕ → Type 0 = λ y. Contains (take (i + 1) vs) y in subst P (sym (e ∙ is)) (newest vs i lt)

  pub spread_new : (q : List ℕ) → q ≡ p' ++ x ∷ [] → Spread (take (i + 1) vs) s p (set s' x true) q
  spread_new q made =
      let P : List ℕ → Type 0 = λ r. Spread (take (i + 1) vs) s p (set s' x true) r in
      subst P (sym made) (record {
        long = length-set s' x true ∙ at.long;
        stays = λ v h. now v (at.stays v h);
        these =
            let Q : ℕ → Type 0 = λ y. seen_at (set s' x true) y ≡ true in
            All-more Q vs i 0 lt (λ k d l. now (get_or (take i vs) k d) (at.these k d l)) (subst Q is (get_or-set_same s' x true false in'));
        only = λ v h. elim (before v h) [
          | inl a ↦ elim (at.only v a) [ inl b ↦ inl b | inr b ↦ inr (wider vs i v lt b) ]
          | inr e ↦ inr (has v e)
        ];
        pends = λ v h. elim (before v h) [
          | inl a ↦ elim (at.pends v a) [ inl b ↦ inl b | inr b ↦ inr (Contains-append_left p' (x ∷ []) v b) ]
          | inr e ↦ let R : ℕ → Type 0 = λ y. Contains (p' ++ x ∷ []) y in inr (subst R (sym e) (Contains-push p' x))
        ];
        waits = λ v h. Contains-append_left p' (x ∷ []) v (at.waits v h);
        from = λ v h. elim (Contains-push_cases p' x v h) [
          | inl a ↦ elim (at.from v a) [ inl b ↦ inl b | inr b ↦ inr (wider vs i v lt b) ]
          | inr e ↦ inr (has v (sym e))
        ];
        less =
            let w : unseen (set s' x true) + one (seen_at s' x) ≡ unseen s' + 0 = sum_by-set one s' x true false in' in
            let o : one (seen_at s' x) ≡ 2 = ap one new in
            let l : unseen s' + length p' ≤ unseen s + length p = at.less in
            omega (arith, w, o, l, length-append p' (x ∷ []));
      })

walk_then : (g : List (List ℕ)) (xs : List ℕ) (a u v : ℕ) → Walk g a xs u → Edge g u v → Walk g a (xs ++ u ∷ []) v
walk_then g [] a u v w e = (w, e)
walk_then g (x ∷ xs) a u v w e = (w.0, walk_then g xs x u v w.1 e)

-- one node of the list is done
module _ (g : List (List ℕ)) (a u : ℕ) (s s' : List Bool) (rest p vs : List ℕ) (at : Reached g a s (rest ++ u ∷ [])) (is : vs ≡ successors g u)
    (to : Spread vs s rest s' p) where
  to_edge : (v : ℕ) → Contains vs v → Edge g u v
  to_edge v h = let P : List ℕ → Type 0 = λ ys. Contains ys v in subst P is h

  led : (v : ℕ) → Contains vs v → Leads g a v
  led v h = elim (at.pended u (Contains-push rest u)) [
    | inl e ↦ let P : ℕ → Type 0 = λ y. Edge g y v in ([], subst P e (to_edge v h))
    | inr l ↦ (l.0 ++ u ∷ [], walk_then g l.0 a u v l.1 (to_edge v h))
  ]

  done : (w : ℕ) → (w ≡ a) ⊎ (seen_at s w ≡ true) → Contains p w ⊎ ((v : ℕ) → Edge g w v → seen_at s' v ≡ true)
  done w h = elim (at.spread w h) [
    | inl c ↦ elim (Contains-push_cases rest u w c) [
      | inl b ↦ inl (to.waits w b)
      | inr e ↦ inr (λ v edge.
          let P : ℕ → Type 0 = λ y. Edge g y v in
          let Q : List ℕ → Type 0 = λ ys. Contains ys v in
          All-contains (λ y. seen_at s' y ≡ true) vs v to.these (subst Q (sym is) (subst P (sym e) edge)))
    ]
    | inr f ↦ inr (λ v edge. to.stays v (f v edge))
  ]

  pub reached : Reached g a s' p
  reached = record {
    long = to.long ∙ at.long;
    led = λ v h. elim (to.only v h) [ inl b ↦ at.led v b | inr b ↦ led v b ];
    pended = λ v h. elim (to.from v h) [
      | inl b ↦ at.pended v (Contains-append_left rest (u ∷ []) v b)
      | inr b ↦ inr (led v b)
    ];
    spread = λ w h. elim h [
      | inl e ↦ done w (inl e)
      | inr b ↦ elim (to.pends w b) [ inl c ↦ done w (inr c) | inr c ↦ inl c ]
    ];
  }

-- with nothing left to be done, what a leads to is seen
empty : (A : Type 0) (v : ℕ) → Contains [] v → A
empty A v c = let lt : c.0 < 0 = c.1 in absurd (omega (arith, lt))

module _ (g : List (List ℕ)) (a : ℕ) (s : List Bool) (at : Reached g a s []) where
  walk_seen : (xs : List ℕ) (u v : ℕ) → (u ≡ a) ⊎ (seen_at s u ≡ true) → Walk g u xs v → seen_at s v ≡ true
  walk_seen [] u v h w = elim (at.spread u h) [
    | inl c ↦ empty (seen_at s v ≡ true) u c
    | inr f ↦ f v w
  ]
  walk_seen (x ∷ xs) u v h w = elim (at.spread u h) [
    | inl c ↦ empty (seen_at s v ≡ true) u c
    | inr f ↦ walk_seen xs x v (inr (f x w.0)) w.1
  ]

  pub not_seen : (v : ℕ) → seen_at s v ≡ false → Leads g a v → ⊥
  not_seen v none l =
      let some : seen_at s v ≡ true = walk_seen l.0 a v (inl refl) l.1 in
      let f : true ≡ false = sym some ∙ none in cc

walk_within : (g : List (List ℕ)) (xs : List ℕ) (u v : ℕ) → Closed g → Walk g u xs v → v < length g
walk_within g [] u v closed w = closed u v w
walk_within g (x ∷ xs) u v closed w = walk_within g xs x v closed w.1

pub pended_within : (g : List (List ℕ)) (a u : ℕ) (s : List Bool) (all rest : List ℕ) → Closed g → a < length g → Reached g a s all → all ≡ rest ++ u ∷ [] → u < length g
pended_within g a u s all rest closed within at made =
    let P : List ℕ → Type 0 = λ ys. Contains ys u in
    elim (at.pended u (subst P (sym made) (Contains-push rest u))) [
      | inl e ↦ omega (arith, e)
      | inr l ↦ walk_within g l.0 a u closed l.1
    ]

pub reached_by : (g : List (List ℕ)) (a u : ℕ) (s s' : List Bool) (all rest p vs : List ℕ) → Reached g a s all → all ≡ rest ++ u ∷ [] → vs ≡ successors g u → Spread vs s rest s' p → Reached g a s' p
reached_by g a u s s' all rest p vs at made is to =
    let P : List ℕ → Type 0 = λ ys. Reached g a s ys in
    reached g a u s s' rest p vs (subst P made at) is to

pub marked : (g : List (List ℕ)) (a : ℕ) (s : List Bool) (all : List ℕ) → Reached g a s all → all ≡ [] → MarksReached g a s
marked g a s all at none =
    let P : List ℕ → Type 0 = λ ys. Reached g a s ys in
    record { long = at.long; led = at.led; others = not_seen g a s (subst P none at) }

pub read_as : (s : List Bool) (x : ℕ) (r : Bool) → r ≡ get_or s x r → x < length s → seen_at s x ≡ r
read_as s x r is lt = get_or_default s x false r lt ∙ sym is
