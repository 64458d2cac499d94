-- A form, as often as it stands.
use Rattle.std.proofs.Common.{◌≡◌, ℕ, zero, suc, ◌≤◌, ◌<◌, Bool, true, false, cond, List, [], ◌∷◌, ◌++◌, length, Ok, Err, refl, sym, ap, subst, ◌∙◌, append_assoc, inl, inr, arith}
use Rattle.std.proofs.lemmas.List.{length-append}
use Rattle.std.specs.Prelude.{◌⊎◌}
use Rattle.phrase_forms.specs.declared.fault.Fault.{Fault}
use Rattle.phrase_forms.proofs.Lists.{bind_ok, bind_err, ok_is, SameHead, same_self, same_after, same_head, head_or, head_apart}
use Rattle.phrase_forms.proofs.Lawful.{Took, Front, Failed, Reaches, Lawful}
use Rattle.phrase_forms.specs.Forms.{Form, Read, head, many, many_at, many_yields, ◌>>=◌}

module _ {T A : Type 0} (a : Form T A) (la : Lawful a) (na : a.nullable ≡ false) (apart : (t : T) → a.first t ≡ true → a.more t ≡ false) where
  at_same : (ts pre u r : List T) (k : Bool) → ts ≡ pre ++ u → SameHead u r → head a.first ts ≡ k → head a.first (pre ++ r) ≡ k
  at_same ts pre u r k e h hk = sym (same_head a.first (pre ++ u) (pre ++ r) (same_after pre u r h)) ∙ ap (head a.first) (sym e) ∙ hk

  record Takes (ts : List T) (xs : List A) (rest : List T) : Type 0 where
    pre : List T
    split : ts ≡ pre ++ rest
    spelt : (k : ℕ) (r : List T) → many_yields a k (pre ++ r) xs r
    again : (r : List T) → SameHead rest r → (m : ℕ) → length (pre ++ r) ≤ m → many_at m a (pre ++ r) ≡ Ok (xs, r)

  record Fails (ts : List T) (f : Fault) (bad : List T) : Type 0 where
    pre : List T
    front : List T
    split : ts ≡ pre ++ bad
    place : Front f front bad
    again : (r : List T) → SameHead bad r → (m : ℕ) → length (pre ++ r) ≤ m → many_at m a (pre ++ r) ≡ Err (f, r)
    grows : (c : List T) × (xs : List A) × ((k : ℕ) (r : List T) → length (front ++ (c ++ r)) ≤ k → many_yields a k (pre ++ (front ++ (c ++ r))) xs r)

  abbrev another : ℕ → List T → Read T (List A)
  another n ts = a.parse ts >>= λ x. many_at n a x.1 >>= λ y. Ok (x.0 ∷ y.0, y.1)

  abbrev no_more : List T → Read T (List A)
  no_more ts = Ok ([], ts)

  -- a phrase is not empty
  eats : (pre : List T) (x : A) → ((k : ℕ) (r : List T) → a.yields k (pre ++ r) x r) → 0 < length pre
  eats [] x spelt =
      elim (la.starts 0 [] x [] (spelt 0 [])) [
        | inl s ↦ absurd cc
        | inr n ↦ absurd (cc (na, n.0))
      ]
  eats (t ∷ pre) x spelt = omega arith

  stop : (m : ℕ) (r : List T) → head a.first r ≡ false → many_at m a r ≡ Ok ([], r)
  unfolding many_at
  stop zero r h = refl
  stop (suc m) r h = rw h refl

  begun : (r : List T) → head a.first r ≡ true → 0 < length r
  begun [] h = absurd cc
  begun (t ∷ r) h = omega arith

  -- one more phrase is read
  step : (m : ℕ) (ts : List T) (x : A) (mid : List T) → head a.first ts ≡ true → a.parse ts ≡ Ok (x, mid) → many_at (suc m) a ts ≡ (many_at m a mid >>= λ y. Ok (x ∷ y.0, y.1))
  unfolding many_at
  step m ts x mid h e = rw (h, e) refl

  none_left : (ts rest : List T) (xs : List A) (n : ℕ) → length ts ≤ n → head a.first ts ≡ false → Takes ts [] ts
  none_left ts rest xs n le h = record { pre = []; split = refl; spelt = λ k r. refl; again = λ r s m l. stop m r (at_same ts [] ts r false refl s h) }

  one_more : (ts : List T) (x : A) (mid : List T) (xs : List A) (rest : List T) → head a.first ts ≡ true → Took a ts x mid → Takes mid xs rest → Takes ts (x ∷ xs) rest
  one_more ts x mid xs rest h t u = record {
    pre = t.pre ++ u.pre;
    split = t.split ∙ ap (λ (w : List T). t.pre ++ w) u.split ∙ sym (append_assoc t.pre u.pre rest);
    spelt = λ k r. (u.pre ++ r, rw append_assoc (t.spelt k (u.pre ++ r)), u.spelt k r);
    again = λ r s m l. rw append_assoc (go r s m (rw append_assoc at l));
  }
    where
      go : (r : List T) → SameHead rest r → (m : ℕ) → length (t.pre ++ (u.pre ++ r)) ≤ m → many_at m a (t.pre ++ (u.pre ++ r)) ≡ Ok (x ∷ xs, r)
      go r s zero l = absurd (omega (arith, length-append t.pre (u.pre ++ r), eats t.pre x t.spelt))
      go r s (suc m) l =
          let sh : SameHead mid (u.pre ++ r) = rw u.split (same_after u.pre rest r s) in
          let hd : head a.first (t.pre ++ (u.pre ++ r)) ≡ true = at_same ts t.pre mid (u.pre ++ r) true t.split sh h in
          let le : length (u.pre ++ r) ≤ m = omega (arith, length-append t.pre (u.pre ++ r), eats t.pre x t.spelt) in
          rw (step m (t.pre ++ (u.pre ++ r)) x (u.pre ++ r) hd (t.again (u.pre ++ r) sh), u.again r s m le) refl

  shorter : (ts : List T) (x : A) (mid : List T) (n : ℕ) → Took a ts x mid → length ts ≤ suc n → length mid ≤ n
  shorter ts x mid n t le = omega (arith, ap length t.split, length-append t.pre mid, eats t.pre x t.spelt)

  takes : (n : ℕ) (ts : List T) → length ts ≤ n → (xs : List A) (rest : List T) → many_at n a ts ≡ Ok (xs, rest) → Takes ts xs rest
  unfolding many_at
  takes zero [] le xs rest e =
      let w : List A × List T = ([], []) in
      subst (λ (u : List A × List T). Takes [] u.0 u.1) (ok_is w (xs, rest) e) (none_left [] rest xs 0 le refl)
  takes zero (t ∷ ts) le xs rest e = absurd (omega arith)
  takes (suc n) ts le xs rest e = go (λ us l ys r d. takes n us l ys r d) (head a.first ts) refl e
    where
      go : ((us : List T) → length us ≤ n → (ys : List A) (r : List T) → many_at n a us ≡ Ok (ys, r) → Takes us ys r) → (k : Bool) → head a.first ts ≡ k → cond k (another n ts) (no_more ts) ≡ Ok (xs, rest) → Takes ts xs rest
      go ih true hk e' =
          let p = bind_ok (a.parse ts) (λ x. many_at n a x.1 >>= λ y. Ok (x.0 ∷ y.0, y.1)) (xs, rest) e' in
          let q = bind_ok (many_at n a p.0.1) (λ y. Ok (p.0.0 ∷ y.0, y.1)) (xs, rest) p.2 in
          let t = la.ok ts p.0.0 p.0.1 p.1 in
          let w : List A × List T = (p.0.0 ∷ q.0.0, q.0.1) in
          subst (λ (u : List A × List T). Takes ts u.0 u.1) (ok_is w (xs, rest) q.2)
          (one_more ts p.0.0 p.0.1 q.0.0 q.0.1 hk t (ih p.0.1 (shorter ts p.0.0 p.0.1 n t le) q.0.0 q.0.1 q.1))
      go ih false hk e' =
          let w : List A × List T = ([], ts) in
          subst (λ (u : List A × List T). Takes ts u.0 u.1) (ok_is w (xs, rest) e') (none_left ts rest xs (suc n) le hk)

  fails_now : (ts : List T) (f : Fault) (bad : List T) → head a.first ts ≡ true → Failed a ts f bad → Fails ts f bad
  unfolding many_at
  fails_now ts f bad h t = record {
    pre = t.pre;
    front = t.front;
    split = t.split;
    place = t.place;
    again = go;
    grows = let g = t.grows in (g.0, g.1 ∷ [], λ k r le. (r, g.2 k r le, refl));
  }
    where
      go : (r : List T) → SameHead bad r → (m : ℕ) → length (t.pre ++ r) ≤ m → many_at m a (t.pre ++ r) ≡ Err (f, r)
      go r s zero l = absurd (omega (arith, begun (t.pre ++ r) (at_same ts t.pre bad r true t.split s h)))
      go r s (suc m) l = rw (at_same ts t.pre bad r true t.split s h, t.again r s) refl

  fails_later : (ts : List T) (x : A) (mid : List T) (f : Fault) (bad : List T) → head a.first ts ≡ true → Took a ts x mid → Fails mid f bad → Fails ts f bad
  fails_later ts x mid f bad h t u = record {
    pre = t.pre ++ u.pre;
    front = u.front;
    split = t.split ∙ ap (λ (w : List T). t.pre ++ w) u.split ∙ sym (append_assoc t.pre u.pre bad);
    place = u.place;
    again = λ r s m l. rw append_assoc (go r s m (rw append_assoc at l));
    grows = let g = u.grows in (g.0, x ∷ g.1, λ k r le. (u.pre ++ (u.front ++ (g.0 ++ r)), rw append_assoc (t.spelt k (u.pre ++ (u.front ++ (g.0 ++ r)))), g.2 k r le));
  }
    where
      go : (r : List T) → SameHead bad r → (m : ℕ) → length (t.pre ++ (u.pre ++ r)) ≤ m → many_at m a (t.pre ++ (u.pre ++ r)) ≡ Err (f, r)
      go r s zero l = absurd (omega (arith, length-append t.pre (u.pre ++ r), eats t.pre x t.spelt))
      go r s (suc m) l =
          let sh : SameHead mid (u.pre ++ r) = rw u.split (same_after u.pre bad r s) in
          let hd : head a.first (t.pre ++ (u.pre ++ r)) ≡ true = at_same ts t.pre mid (u.pre ++ r) true t.split sh h in
          let le : length (u.pre ++ r) ≤ m = omega (arith, length-append t.pre (u.pre ++ r), eats t.pre x t.spelt) in
          rw (step m (t.pre ++ (u.pre ++ r)) x (u.pre ++ r) hd (t.again (u.pre ++ r) sh), u.again r s m le) refl

  fails : (n : ℕ) (ts : List T) → length ts ≤ n → (f : Fault) (bad : List T) → many_at n a ts ≡ Err (f, bad) → Fails ts f bad
  unfolding many_at
  fails zero ts le f bad e = absurd cc
  fails (suc n) ts le f bad e = go (λ us l g b d. fails n us l g b d) (head a.first ts) refl e
    where
      go : ((us : List T) → length us ≤ n → (g : Fault) (b : List T) → many_at n a us ≡ Err (g, b) → Fails us g b) → (k : Bool) → head a.first ts ≡ k → cond k (another n ts) (no_more ts) ≡ Err (f, bad) → Fails ts f bad
      go ih true hk e' =
          elim (bind_err (a.parse ts) (λ x. many_at n a x.1 >>= λ y. Ok (x.0 ∷ y.0, y.1)) (f, bad) e') [
            | inl ea ↦ fails_now ts f bad hk (la.err ts f bad ea)
            | inr p ↦ elim (bind_err (many_at n a p.0.1) (λ y. Ok (p.0.0 ∷ y.0, y.1)) (f, bad) p.2) [
              | inl eb ↦ let t = la.ok ts p.0.0 p.0.1 p.1 in fails_later ts p.0.0 p.0.1 f bad hk t (ih p.0.1 (shorter ts p.0.0 p.0.1 n t le) f bad eb)
              | inr q ↦ absurd (cc (q.2))
            ]
          ]
      go ih false hk e' = absurd cc

  many_starts : (k : ℕ) (xs : List A) (ts rest : List T) → many_yields a k ts xs rest → (head a.first ts ≡ true) ⊎ ((true ≡ true) × (ts ≡ rest))
  many_starts k [] ts rest y = inr (refl, y)
  many_starts k (x ∷ xs) ts rest y =
      elim (la.starts k ts x y.0 y.1) [
        | inl s ↦ inl s
        | inr n ↦ absurd (cc (na, n.0))
      ]

  stops : (k : ℕ) (xs : List A) (mid rest : List T) → many_yields a k mid xs rest → head a.more rest ≡ false → head a.more mid ≡ false
  stops k xs mid rest y h =
      elim (many_starts k xs mid rest y) [
        | inl s ↦ head_apart a.first a.more mid apart s
        | inr n ↦ rw n.1 h
      ]

  complete : (k : ℕ) (xs : List A) (n : ℕ) (ts rest : List T) → length ts ≤ n → many_yields a k ts xs rest → head (many a).more rest ≡ false
      → Reaches k (many_at n a ts) xs rest
  unfolding many_at
  complete k [] n ts rest le y h = rw y (inl (stop n rest (head_or a.more a.first rest h).1))
  complete k (x ∷ xs) n ts rest le y h =
      elim (la.starts k ts x y.0 y.1) [
        | inl s ↦ go (λ m us l z w. complete k xs m us rest l z w) n le s (la.complete k ts x y.0 y.1 (stops k xs y.0 rest y.2 (head_or a.more a.first rest h).0))
        | inr j ↦ absurd (cc (na, j.0))
      ]
    where
      more_of : ((j : ℕ) (us : List T) → length us ≤ j → many_yields a k us xs rest → head (many a).more rest ≡ false → Reaches k (many_at j a us) xs rest) → (m : ℕ) → length ts ≤ suc m → head a.first ts ≡ true → a.parse ts ≡ Ok (x, y.0) → Reaches k (many_at (suc m) a ts) (x ∷ xs) rest
      more_of ih m l s e =
          elim (ih m y.0 (shorter ts x y.0 m (la.ok ts x y.0 e) l) y.2 h) [
            | inl f ↦ inl (rw (step m ts x y.0 s e, f) refl)
            | inr d ↦ inr (d.0, rw (step m ts x y.0 s e, d.1) refl, d.2, d.3)
          ]

      go : ((j : ℕ) (us : List T) → length us ≤ j → many_yields a k us xs rest → head (many a).more rest ≡ false → Reaches k (many_at j a us) xs rest) → (m : ℕ) → length ts ≤ m → head a.first ts ≡ true → Reaches k (a.parse ts) x y.0 → Reaches k (many_at m a ts) (x ∷ xs) rest
      go ih zero l s r = absurd (omega (arith, begun ts s))
      go ih (suc m) l s r =
          elim r [
            | inl e ↦ more_of ih m l s e
            | inr d ↦ inr (d.0, rw (s, d.1) refl, d.2, d.3)
          ]

  pub many_lawful : Lawful (many a)
  many_lawful = record {
    ok = λ ts xs rest e. let t = takes (length ts) ts (omega arith) xs rest e in record { pre = t.pre; split = t.split; spelt = t.spelt; again = λ r s. t.again r s (length (t.pre ++ r)) (omega arith) };
    err = λ ts f bad e. let t = fails (length ts) ts (omega arith) f bad e in record { pre = t.pre; front = t.front; split = t.split; place = t.place; again = λ r s. t.again r s (length (t.pre ++ r)) (omega arith); grows = t.grows };
    complete = λ k ts xs rest y h. complete k xs (length ts) ts rest (omega arith) y h;
    some = ([], [], λ k r le. refl);
    starts = λ k ts xs rest y. many_starts k xs ts rest y;
  }

  -- more fuel changes nothing
  many_fuel : (n m : ℕ) (ts : List T) → length ts ≤ n → length ts ≤ m → many_at n a ts ≡ many_at m a ts
  many_fuel n m ts ln lm = go (many_at n a ts) refl
    where
      go : (r : Read T (List A)) → many_at n a ts ≡ r → r ≡ many_at m a ts
      go (Ok x) e =
          let t = takes n ts ln x.0 x.1 e in
          let f : many_at m a (t.pre ++ x.1) ≡ Ok x = t.again x.1 (same_self x.1) m (rw (← t.split) lm) in
          sym (rw t.split f)
      go (Err x) e =
          let t = fails n ts ln x.0 x.1 e in
          let f : many_at m a (t.pre ++ x.1) ≡ Err x = t.again x.1 (same_self x.1) m (rw (← t.split) lm) in
          sym (rw t.split f)

  -- what a loop reads next
  pub many_step : (ts : List T) (x : A) (mid : List T) → head a.first ts ≡ true → a.parse ts ≡ Ok (x, mid) → (many a).parse ts ≡ ((many a).parse mid >>= λ y. Ok (x ∷ y.0, y.1))
  many_step [] x mid h e = absurd cc
  many_step (t ∷ ts) x mid h e =
      let le : length mid ≤ length ts = shorter (t ∷ ts) x mid (length ts) (la.ok (t ∷ ts) x mid e) (omega arith) in
      rw (step (length ts) (t ∷ ts) x mid h e, many_fuel (length ts) (length mid) mid le (omega arith)) refl

  pub many_stops : (ts : List T) → head a.first ts ≡ false → (many a).parse ts ≡ Ok ([], ts)
  many_stops ts h = stop (length ts) ts h
