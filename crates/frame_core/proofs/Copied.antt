-- Copies of the lemmas that are brought up to date.
use Rattle.std.proofs.Common.{◌≡◌, ◌≢◌, ℕ, zero, suc, ◌<◌, ◌≤◌, true, false, List, [], ◌∷◌, ◌++◌, length, set, sym, ap, subst, ◌∙◌, inl, inr, arith, length-append, length-set, get_or-set_same, get_or-set_other}
use Rattle.std.specs.List.{Contains}
use Rattle.std.proofs.Math.ListN.{get_or-append}
use Rattle.std.proofs.Math.Seq.{get_or-append_seam}
use Rattle.std.proofs.lemmas.Bool.{cases_eq, cases_lt}
use Rattle.std.proofs.lemmas.List.{ext_get_or, set-set}
use Rattle.frame_core.specs.declared.parts.Lemma.{Lemma}
use Rattle.frame_core.specs.FrameLaw.{no_lemma, lemma_at, raised_at, retired_at}
use Rattle.frame_core.specs.Copies.{LagsBehind}

-- a number that is not the first is in the rest
pub in_rest : (n m : ℕ) (ns : List ℕ) → n ≢ m → Contains (m ∷ ns) n → Contains ns n
in_rest n m ns ne (zero, lt, is) = absurd (ne (sym is))
in_rest n m ns ne (suc k, lt, is) = (k, omega (arith, lt), is)

-- lemma m of the copy is as it is now
pub caught_up : (lemmas copy : List Lemma) (m : ℕ) (l : Lemma) (changed : List ℕ) → m < length copy → l ≡ lemma_at lemmas m →
    LagsBehind lemmas (m ∷ changed) copy → LagsBehind lemmas changed (set copy m l)
caught_up lemmas copy m l changed lt is lags =
    let new = set copy m l in
    let here : lemma_at new m ≡ l = get_or-set_same copy m l no_lemma lt in
    let other : (n : ℕ) → n ≢ m → lemma_at new n ≡ lemma_at copy n = λ n ne. get_or-set_other copy m n l no_lemma ne in
    let old : (n : ℕ) → n < length new → n < length copy = λ n b. omega (arith, length-set copy m l) in
    let now : (n : ℕ) → n ≡ m → lemma_at new n ≡ lemma_at lemmas n = λ n e. rw e (here ∙ is) in
    record {
      shorter = let s = lags.shorter in omega (arith, length-set copy m l);
      clause = λ n b. elim (cases_eq n m) [
        | inl e ↦ ap (λ (z : Lemma). z.clause) (now n e)
        | inr ne ↦ ap (λ (z : Lemma). z.clause) (other n ne) ∙ lags.clause n (old n b)
      ];
      live = λ n b on. elim (cases_eq n m) [
        | inl e ↦ ap (λ (z : Lemma). z.live) (now n e) ∙ on
        | inr ne ↦ ap (λ (z : Lemma). z.live) (other n ne) ∙ lags.live n (old n b) on
      ];
      same = λ n b. elim (cases_eq n m) [
        | inl e ↦ inr (now n e)
        | inr ne ↦ elim (lags.same n (old n b)) [
          | inl named ↦ inl (in_rest n m changed ne named)
          | inr same ↦ inr (other n ne ∙ same)
        ]
      ];
    }

-- no lemma of the copy has this number, or none of the lemmas
pub caught_none : (lemmas copy : List Lemma) (m : ℕ) (changed : List ℕ) → length copy ≤ m →
    LagsBehind lemmas (m ∷ changed) copy → LagsBehind lemmas changed copy
caught_none lemmas copy m changed past lags =
    record {
      shorter = lags.shorter;
      clause = lags.clause;
      live = lags.live;
      same = λ n b. elim (lags.same n b) [
        | inl named ↦ inl (in_rest n m changed (λ e. absurd (omega arith)) named)
        | inr same ↦ inr same
      ];
    }

-- raising and retiring give the lemma as it is now, where it has its clause and is retired if it was
pub caught_lemma : (a l : Lemma) → a.clause ≡ l.clause → (l.live ≡ true → a.live ≡ true) → l.live ≡ true →
    record { clause = a.clause; level = l.level; live = a.live } ≡ l
caught_lemma a l c still on =
    let e : a.live ≡ l.live = still on ∙ sym on in
    λ i. record { clause = c i; level = l.level; live = e i }

pub retired_lemma_is : (a l : Lemma) → a.clause ≡ l.clause → l.live ≡ false → record { clause = a.clause; level = l.level; live = false } ≡ l
retired_lemma_is a l c off = λ i. record { clause = c i; level = l.level; live = sym off i }

-- lemma m of the copy has the level that it has now, and is live now
pub caught_raised : (lemmas copy : List Lemma) (m : ℕ) (l : Lemma) (changed : List ℕ) → m < length copy → l ≡ lemma_at lemmas m → l.live ≡ true →
    LagsBehind lemmas (m ∷ changed) copy → LagsBehind lemmas changed (raised_at copy m l.level)
caught_raised lemmas copy m l changed lt is on lags =
    let clause : (lemma_at copy m).clause ≡ l.clause = lags.clause m lt ∙ ap (λ (z : Lemma). z.clause) (sym is) in
    let still : l.live ≡ true → (lemma_at copy m).live ≡ true = λ e. lags.live m lt (ap (λ (z : Lemma). z.live) (sym is) ∙ e) in
    subst (λ (z : Lemma). LagsBehind lemmas changed (set copy m z)) (sym (caught_lemma (lemma_at copy m) l clause still on))
    (caught_up lemmas copy m l changed lt is lags)

-- lemma m of the copy has the level that it has now, and is retired as it is now
pub caught_retired : (lemmas copy : List Lemma) (m : ℕ) (l : Lemma) (changed : List ℕ) → m < length copy → l ≡ lemma_at lemmas m → l.live ≡ false →
    LagsBehind lemmas (m ∷ changed) copy → LagsBehind lemmas changed (retired_at (raised_at copy m l.level) m)
caught_retired lemmas copy m l changed lt is off lags =
    let a = lemma_at copy m in
    let r : Lemma = record { clause = a.clause; level = l.level; live = a.live } in
    let clause : a.clause ≡ l.clause = lags.clause m lt ∙ ap (λ (z : Lemma). z.clause) (sym is) in
    let read : lemma_at (set copy m r) m ≡ r = get_or-set_same copy m r no_lemma lt in
    let q : Lemma = record { clause = (lemma_at (set copy m r) m).clause; level = (lemma_at (set copy m r) m).level; live = false } in
    let retired : Lemma → Lemma = λ z. record { clause = z.clause; level = z.level; live = false } in
    let here : q ≡ l = ap retired read ∙ retired_lemma_is a l clause off in
    let whole : retired_at (raised_at copy m l.level) m ≡ set copy m l = set-set copy m r q ∙ ap (set copy m) here in
    subst (LagsBehind lemmas changed) (sym whole) (caught_up lemmas copy m l changed lt is lags)

-- one lemma more, as it is now
pub caught_more : (lemmas copy : List Lemma) (l : Lemma) → l ≡ lemma_at lemmas (length copy) → length copy < length lemmas →
    LagsBehind lemmas [] copy → LagsBehind lemmas [] (copy ++ l ∷ [])
caught_more lemmas copy l is lt lags =
    let new = copy ++ l ∷ [] in
    let same : (n : ℕ) → n < length new → lemma_at new n ≡ lemma_at lemmas n = λ n b. elim (cases_lt n (length copy)) [
      | inl old ↦ get_or-append copy (l ∷ []) no_lemma n old ∙ elim (lags.same n old) [
        | inl named ↦ absurd (omega (arith, named.1))
        | inr same ↦ same
      ]
      | inr past ↦
          let e : n ≡ length copy = omega (arith, length-append copy (l ∷ [])) in
          let P : ℕ → Type 0 = λ k. lemma_at new k ≡ lemma_at lemmas k in
          subst P (sym e) (get_or-append_seam copy l [] no_lemma ∙ is)
    ] in
    record {
      shorter = omega (arith, length-append copy (l ∷ []));
      clause = λ n b. ap (λ (z : Lemma). z.clause) (same n b);
      live = λ n b on. ap (λ (z : Lemma). z.live) (same n b) ∙ on;
      same = λ n b. inr (same n b);
    }

-- a copy with all lemmas and none that changed since
pub caught_all : (lemmas copy : List Lemma) → length copy ≡ length lemmas → LagsBehind lemmas [] copy → copy ≡ lemmas
caught_all lemmas copy long lags =
    ext_get_or no_lemma copy lemmas long (λ n b. elim (lags.same n b) [
      | inl named ↦ absurd (omega (arith, named.1))
      | inr same ↦ same
    ])
