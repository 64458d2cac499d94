-- Where numbers stand in a list.
use Rattle.std.proofs.Common.{◌≡◌, ◌∙◌, ℕ, zero, suc, ◌+◌, ◌<◌, ◌≤◌, ◌==◌, Bool, true, false, ◌&&◌, ◌||◌, cond, List, [], ◌∷◌, ◌++◌, length, get_or, slice_get, Option, Some, None, refl, sym, ap, subst, arith, inl, inr, append-nil}
use Rattle.std.specs.List.{filter, range_with_len}
use Rattle.std.proofs.lemmas.Bool.{cases_Bool, eq-eqb, eqb-true, false_from_ne_true, or_left, or_right}
use Rattle.std.proofs.lemmas.List.{map-id}
use Rattle.std.proofs.lemmas.List.FromFn.{filter_of_map_range_with_len_more, length-range_with_len}
use Rattle.std.proofs.lemmas.Option.{get_or_from_slice_get, slice_get-get_or, slice_get_within}
use Rattle.bit_formula.specs.Coding.{is_in}
use Rattle.bit_formula.specs.Numbers.{AreInOrder, is_number}

-- a number of a list stands at its place
pub record StandsAt (ns : List ℕ) (place k : ℕ) : Type 0 where
  pub inside : place < length ns
  pub there : get_or ns place 0 ≡ k

abbrev Somewhere : List ℕ → ℕ → Type 0
Somewhere ns k = (place : ℕ) × StandsAt ns place k

place_step : (n : ℕ) (ns : List ℕ) (k : ℕ) (b : Bool) → (n == k) ≡ b → (b || is_in ns k) ≡ true → (is_in ns k ≡ true → Somewhere ns k) → Somewhere (n ∷ ns) k
place_step n ns k true e h rest = (0, record { inside = omega arith; there = eqb-true n k e })
place_step n ns k false e h rest = let r = rest h in (suc r.0, record { inside = let i = r.1.inside in omega (arith, i); there = r.1.there })

pub place_of : (ns : List ℕ) (k : ℕ) → is_in ns k ≡ true → (place : ℕ) × StandsAt ns place k
place_of [] k h = cc
place_of (n ∷ ns) k h = place_step n ns k (n == k) refl h (place_of ns k)

-- what stands at a place is in the list
pub in_at : (ns : List ℕ) (i : ℕ) → i < length ns → is_in ns (get_or ns i 0) ≡ true
in_at [] i lt = absurd (let no : ⊥ = omega (arith, lt) in no)
in_at (n ∷ ns) zero lt = or_left (n == n) (is_in ns n) (eq-eqb n n refl)
in_at (n ∷ ns) (suc i) lt = or_right (n == get_or ns i 0) (is_in ns (get_or ns i 0)) (in_at ns i (omega (arith, lt)))

pub in_range : (a n j : ℕ) → j < n → is_in (range_with_len a n) (a + j) ≡ true
in_range a zero j lt = absurd (let no : ⊥ = omega (arith, lt) in no)
in_range a (suc n) zero lt = or_left (a == a + 0) (is_in (range_with_len (a + 1) n) (a + 0)) (eq-eqb a (a + 0) (omega arith))
in_range a (suc n) (suc j) lt =
    or_right (a == a + suc j) (is_in (range_with_len (a + 1) n) (a + suc j))
    (subst (λ k. is_in (range_with_len (a + 1) n) k ≡ true) (let e : (a + 1) + j ≡ a + suc j = omega arith in e) (in_range (a + 1) n j (omega (arith, lt))))

module _ (f : ℕ → Bool) where
  filter_step : (x : ℕ) (xs : List ℕ) (k : ℕ) (b c : Bool) → f x ≡ b → (x == k) ≡ c → is_in (filter f xs) k ≡ (f k && is_in xs k)
      → is_in (cond b (x ∷ filter f xs) (filter f xs)) k ≡ (f k && ((x == k) || is_in xs k))
  filter_step x xs k true true on here rest = let fk : f k ≡ true = ap f (sym (eqb-true x k here)) ∙ on in rw (here, fk) refl
  filter_step x xs k true false on here rest = rw here rest
  filter_step x xs k false true on here rest =
      let fk : f k ≡ false = ap f (sym (eqb-true x k here)) ∙ on in
      rest ∙ ap (λ (b : Bool). b && is_in xs k) fk ∙ ap (λ (b : Bool). b && ((x == k) || is_in xs k)) (sym fk)
  filter_step x xs k false false on here rest = rw here rest

  -- what passes is in the list that is left
  pub in_filter : (xs : List ℕ) (k : ℕ) → is_in (filter f xs) k ≡ (f k && is_in xs k)
  in_filter [] k = elim (f k) as (λ (b : Bool). false ≡ (b && false)) [ true ↦ refl | false ↦ refl ]
  in_filter (x ∷ xs) k = filter_step x xs k (f x) (x == k) refl refl (in_filter xs k)

  -- of the numbers below n
  pub in_below : (n k : ℕ) → k < n → is_in (filter f (range_with_len 0 n)) k ≡ f k
  in_below n k lt =
      let there : is_in (range_with_len 0 n) k ≡ true = subst (λ j. is_in (range_with_len 0 n) j ≡ true) (let e : 0 + k ≡ k = omega arith in e) (in_range 0 n k lt) in
      in_filter (range_with_len 0 n) k ∙ ap (λ (b : Bool). f k && b) there ∙ (elim (f k) as (λ (b : Bool). (b && true) ≡ b) [ true ↦ refl | false ↦ refl ])

  -- how many pass of the j numbers from a on
  abbrev pub rank : ℕ → ℕ → ℕ
  rank a j = length (filter f (range_with_len a j))

  abbrev Ranked : (xs rest : List ℕ) (k : ℕ) → Type 0
  Ranked xs rest k = StandsAt xs (length rest) k

  rank_first : (a : ℕ) (xs : List ℕ) (k : ℕ) (b : Bool) → b ≡ true → k ≡ a + 0 → Ranked (cond b (a ∷ xs) xs) [] k
  rank_first a xs k false on k_is = cc
  rank_first a xs k true on k_is = record { inside = omega arith; there = omega (arith, k_is) }

  rank_later : (a : ℕ) (xs rest : List ℕ) (k : ℕ) (b : Bool) → Ranked xs rest k → Ranked (cond b (a ∷ xs) xs) (cond b (a ∷ rest) rest) k
  rank_later a xs rest k false r = r
  rank_later a xs rest k true r = record { inside = let inside = r.inside in omega (arith, inside); there = r.there }

  ranks : (a n j k : ℕ) → j < n → k ≡ a + j → f k ≡ true → Ranked (filter f (range_with_len a n)) (filter f (range_with_len a j)) k
  ranks a zero j k lt k_is on = absurd (let no : ⊥ = omega (arith, lt) in no)
  ranks a (suc n) zero k lt k_is on = rank_first a (filter f (range_with_len (a + 1) n)) k (f a) (ap f (let e : a ≡ k = omega (arith, k_is) in e) ∙ on) k_is
  ranks a (suc n) (suc j) k lt k_is on =
      rank_later a (filter f (range_with_len (a + 1) n)) (filter f (range_with_len (a + 1) j)) k (f a)
      (ranks (a + 1) n j k (omega (arith, lt)) (omega (arith, k_is)) on)

  -- one number more
  pub filter_next : (k : ℕ) → filter f (range_with_len 0 (k + 1)) ≡ filter f (range_with_len 0 k) ++ cond (f k) (k ∷ []) []
  filter_next k =
      ap (filter f) (sym (map-id (range_with_len 0 (k + 1)))) ∙ filter_of_map_range_with_len_more f (λ (i : ℕ). i) 0 k k (omega arith)
      ∙ ap (λ (xs : List ℕ). filter f xs ++ cond (f k) (k ∷ []) []) (map-id (range_with_len 0 k))

  pub listed_one : (k : ℕ) → f k ≡ true → filter f (range_with_len 0 k) ++ k ∷ [] ≡ filter f (range_with_len 0 (k + 1))
  listed_one k on = ap (λ (b : Bool). filter f (range_with_len 0 k) ++ cond b (k ∷ []) []) (sym on) ∙ sym (filter_next k)

  pub listed_none : (k : ℕ) → f k ≡ false → filter f (range_with_len 0 k) ≡ filter f (range_with_len 0 (k + 1))
  listed_none k off =
      sym (append-nil (filter f (range_with_len 0 k))) ∙ ap (λ (b : Bool). filter f (range_with_len 0 k) ++ cond b (k ∷ []) []) (sym off) ∙ sym (filter_next k)

  long_step : (xs : List ℕ) (k : ℕ) (b : Bool) → length (xs ++ cond b (k ∷ []) []) ≡ cond b (length xs + 1) (length xs)
  long_step [] k true = refl
  long_step [] k false = refl
  long_step (x ∷ xs) k true = let e = long_step xs k true in omega (arith, e)
  long_step (x ∷ xs) k false = ap suc (long_step xs k false)

  pub rank_next : (k : ℕ) → rank 0 (k + 1) ≡ cond (f k) (rank 0 k + 1) (rank 0 k)
  rank_next k = ap length (filter_next k) ∙ long_step (filter f (range_with_len 0 k)) k (f k)

  long_cond : (x : ℕ) (xs : List ℕ) (b : Bool) → length (cond b (x ∷ xs) xs) ≤ suc (length xs)
  long_cond x xs true = omega arith
  long_cond x xs false = omega arith

  pub filter_short : (xs : List ℕ) → length (filter f xs) ≤ length xs
  filter_short [] = omega arith
  filter_short (x ∷ xs) = let a = long_cond x (filter f xs) (f x) in let b = filter_short xs in omega (arith, a, b)

  pub rank_short : (a j : ℕ) → rank a j ≤ j
  rank_short a j = omega (arith, filter_short (range_with_len a j), length-range_with_len a j)

-- lists that are what is left of the numbers below n are in their order
same_below : (f g : ℕ → Bool) (a n : ℕ) → ((j : ℕ) → j < n → f (a + j) ≡ g (a + j)) → filter f (range_with_len a n) ≡ filter g (range_with_len a n)
same_below f g a zero same = refl
same_below f g a (suc n) same =
    let here : f a ≡ g a = subst (λ k. f k ≡ g k) (let e : a + 0 ≡ a = omega arith in e) (same 0 (omega arith)) in
    ap (λ (b : Bool). cond b (a ∷ filter f (range_with_len (a + 1) n)) (filter f (range_with_len (a + 1) n))) here
    ∙ ap (λ (xs : List ℕ). cond (g a) (a ∷ xs) xs)
    (same_below f g (a + 1) n (λ j lt. subst (λ k. f k ≡ g k) (let e : a + suc j ≡ (a + 1) + j = omega arith in e) (same (suc j) (omega (arith, lt)))))

pub in_order : (f : ℕ → Bool) (n : ℕ) → AreInOrder n (filter f (range_with_len 0 n))
in_order f n =
    same_below f (is_in (filter f (range_with_len 0 n))) 0 n (λ j lt.
    subst (λ k. f k ≡ is_in (filter f (range_with_len 0 n)) k) (let e : j ≡ 0 + j = omega arith in e) (sym (in_below f n j lt)))

module _ (n : ℕ) (reads : List ℕ) (order : AreInOrder n reads) (k : ℕ) (below : k < n) where
  abbrev at : ℕ
  at = rank (is_in reads) 0 k

  number_true : is_in reads k ≡ true → is_number (slice_get reads at) k ≡ true
  number_true here =
      let r = ranks (is_in reads) 0 n k k below (omega arith) here in
      let s : StandsAt reads at k = subst (λ (xs : List ℕ). StandsAt xs at k) (sym order) r in
      ap (λ (o : Option ℕ). is_number o k) (slice_get-get_or reads at 0 s.inside) ∙ eq-eqb (get_or reads at 0) k s.there

  number_found : (o : Option ℕ) → slice_get reads at ≡ o → is_number o k ≡ true → is_in reads k ≡ true
  number_found None e h = cc
  number_found (Some m) e h =
      let inside = slice_get_within reads at m e in
      let there : get_or reads at 0 ≡ k = get_or_from_slice_get reads at m 0 e ∙ eqb-true m k h in
      subst (λ j. is_in reads j ≡ true) there (in_at reads at inside)

  -- the next number is k just where k is in the list
  pub number_is : is_in reads k ≡ is_number (slice_get reads at) k
  number_is = elim (cases_Bool (is_in reads k)) [
    | inl on ↦ on ∙ sym (number_true on)
    | inr off ↦ off ∙ sym (false_from_ne_true (is_number (slice_get reads at) k) (λ t.
        let e : true ≡ false = sym (number_found (slice_get reads at) refl t) ∙ off in cc))
  ]

pub cond_same : {A : Type 0} (b c : Bool) (x y v w : A) → b ≡ c → (b ≡ true → x ≡ v) → (b ≡ false → y ≡ w) → cond b x y ≡ cond c v w
cond_same true true x y v w e on off = on refl
cond_same false false x y v w e on off = off refl
cond_same true false x y v w e on off = cc
cond_same false true x y v w e on off = cc
