use Rattle.std.proofs.Common.{◌≡◌, ℕ, ◌<◌, ◌+◌, ◌*◌, Bool, true, false, eqb, List, [], length, take, get_or, refl, sym, subst, ap, ◌∙◌, inl, inr, ◌⊎◌, arith, eqb-true, eq-eqb}
use Rattle.std.specs.List.{Contains, list_any}
use Rattle.std.proofs.lemmas.Bool.{cases_Bool, cases_eq, both_ways}
use Rattle.std.proofs.lemmas.List.{get_or_default}
use Rattle.std.proofs.lemmas.List.Folds.{Any-from_list_any, list_any_at}
use Rattle.std.proofs.lemmas.List.Elements.{All-contains}
use Rattle.clause_core.specs.declared.literal.Lit.{Lit}
use Rattle.clause_core.specs.Literals.{negate, at}
use Rattle.sat_prop.specs.Watches.{one}
use Rattle.clause_core.specs.Propagation.{Settled}
use Rattle.clause_core.proofs.Lists.{lit_same}
use Rattle.clause_core.proofs.Lists.{negate_negate}
use Rattle.sat_prop.specs.declared.watch.Watches.{Watches}
use Rattle.sat_prop.specs.Trails.{is_literal, among}
use Rattle.sat_prop.specs.Watches.{watches_at, TrueIn, Guarded, HasTwo, WatchesIn, AllWatchesIn, AllGuarded, cell, DoneWith}
use Rattle.sat_prop.proofs.Ways.{lit_is_same, lit_is_itself, among_take_where, among_take_here}
use Rattle.sat_prop.proofs.Sweeps.{contains_among}

pub true_has : (u c : List Lit) → TrueIn u c → (l : Lit) × Contains c l × (among u l ≡ true)
true_has u c e = let h = Any-from_list_any (among u) c e in (h.1, (h.0, h.2, h.3), h.4)

pub true_from : (u c : List Lit) (l : Lit) → Contains c l → among u l ≡ true → TrueIn u c
true_from u c l h on =
    let P : Lit → Type 0 = λ x. among u x ≡ true in
    list_any_at (among u) c h.0 l h.1 (subst P (sym h.2) on)

-- a true literal settles a clause
pub true_settled : (tr c : List Lit) → ((l : Lit) → among tr l ≡ true → among tr (negate l) ≡ true → ⊥) → TrueIn tr c → Settled (among tr) c
true_settled tr c one e =
    let h = true_has tr c e in (
      λ all. one h.0 h.2 (All-contains (λ m. among tr (negate m) ≡ true) c h.0 all h.1),
      λ l u.
          elim (cases_Bool (is_literal h.0 l)) [
            | inl on ↦ let P : Lit → Type 0 = λ x. among tr x ≡ true in subst P (lit_is_same h.0 l on) h.2
            | inr off ↦
                let ne : h.0 ≡ l → ⊥ = λ s. both_ways _ off (rw s (lit_is_itself l)) in
                absurd (one h.0 h.2 (All-contains (λ m. (m ≡ l → ⊥) → among tr (negate m) ≡ true) c h.0 u.1 h.1 ne))
          ],
    )

pub two_settled : (t : Lit → Bool) (c : List Lit) (m k : Lit) → Contains c m → Contains c k → t (negate m) ≡ false → t (negate k) ≡ false →
    (m ≡ k → ⊥) → Settled t c
two_settled t c m k hm hk fm fk ne = (
  λ all. both_ways _ fm (All-contains (λ l. t (negate l) ≡ true) c m all hm),
  λ l u.
      elim (cases_Bool (is_literal m l)) [
        | inl on ↦
            let same : m ≡ l = lit_is_same m l on in
            let nk : k ≡ l → ⊥ = λ e. ne (same ∙ sym e) in
            absurd (both_ways _ fk (All-contains (λ x. (x ≡ l → ⊥) → t (negate x) ≡ true) c k u.1 hk nk))
        | inr off ↦
            let nm : m ≡ l → ⊥ = λ e. both_ways _ off (rw e (lit_is_itself l)) in
            absurd (both_ways _ fm (All-contains (λ x. (x ≡ l → ⊥) → t (negate x) ≡ true) c m u.1 hm nm))
      ],
)

-- a clause that is guarded by the whole trail is settled in it
pub guard_settled : (tr c : List Lit) (h : Watches) → ((l : Lit) → among tr l ≡ true → among tr (negate l) ≡ true → ⊥) → HasTwo h → WatchesIn h c → Guarded tr tr h c →
    Settled (among tr) c
guard_settled tr c h one big ok guard =
    elim (cases_Bool (among tr (negate h.a))) [
      | inl fa ↦ true_settled tr c one (guard.0 fa)
      | inr na ↦ elim (cases_Bool (among tr (negate h.b))) [
        | inl fb ↦ true_settled tr c one (guard.1 fb)
        | inr nb ↦ two_settled (among tr) c h.a h.b (contains_among c h.a ok.0) (contains_among c h.b ok.1) na nb
            (λ e. both_ways _ big (rw e (lit_is_itself h.b)))
      ]
    ]

-- a clause is settled, if it has two watches or else is settled
pub watched_settled : (cs : List (List Lit)) (watches : List Watches) (tr : List Lit) → ((l : Lit) → among tr l ≡ true → among tr (negate l) ≡ true → ⊥) →
    AllWatchesIn cs watches → AllGuarded cs watches tr tr → (k : ℕ) → k < length cs →
    (is_literal (watches_at watches k).a (watches_at watches k).b ≡ true → Settled (among tr) (get_or cs k [])) → Settled (among tr) (get_or cs k [])
watched_settled cs watches tr one ok watch k lk short =
    elim (cases_Bool (is_literal (watches_at watches k).a (watches_at watches k).b)) [
      | inl s ↦ short s
      | inr big ↦ guard_settled tr (get_or cs k []) (watches_at watches k) one big (ok k lk big) (watch k lk big)
    ]

-- the trail grows
pub true_grows : (u w c : List Lit) → ((l : Lit) → among u l ≡ true → among w l ≡ true) → TrueIn u c → TrueIn w c
true_grows u w c g e = let h = true_has u c e in true_from w c h.0 h.1 (g h.0 h.2)

pub watch_grows : (cs : List (List Lit)) (watches : List Watches) (s u w : List Lit) → ((l : Lit) → among u l ≡ true → among w l ≡ true) →
    AllGuarded cs watches s u → AllGuarded cs watches s w
watch_grows cs watches s u w g h k lk big =
    let c = get_or cs k [] in
    let f = h k lk big in
    (λ e. true_grows u w c g (f.0 e), λ e. true_grows u w c g (f.1 e))

pub last_or_before : (tr : List Lit) (n : ℕ) (l : Lit) → n < length tr → among (take (n + 1) tr) l ≡ true → (among (take n tr) l ≡ true) ⊎ (at tr n ≡ l)
last_or_before tr n l lt e =
    let h = among_take_where tr (n + 1) l (omega arith) e in
    elim (cases_eq h.0 n) [
      | inl same ↦ let P : ℕ → Type 0 = λ x. at tr x ≡ l in inr (subst P same h.2)
      | inr ne ↦ inl (among_take_here tr n h.0 l (omega arith) (omega (arith, h.1, ne)) h.2)
    ]

-- the head of the queue goes on past f, once each clause that watches f is done
pub watch_advances : (cs : List (List Lit)) (watches : List Watches) (tr : List Lit) (n : ℕ) → n < length tr → AllGuarded cs watches (take n tr) tr →
    ((k : ℕ) → DoneWith cs watches tr (negate (at tr n)) k) → AllGuarded cs watches (take (n + 1) tr) tr
watch_advances cs watches tr n lt h done k lk big =
    let c = get_or cs k [] in
    let w = watches_at watches k in
    let old = h k lk big in
    let d = done k lk big in (
      λ e. elim (last_or_before tr n (negate w.a) lt e) [
        | inl before ↦ old.0 before
        | inr last ↦ d.0 (sym (negate_negate w.a) ∙ ap negate (sym last))
      ],
      λ e. elim (last_or_before tr n (negate w.b) lt e) [
        | inl before ↦ old.1 before
        | inr last ↦ d.1 (sym (negate_negate w.b) ∙ ap negate (sym last))
      ],
    )

pub list_at : (xs : List ℕ) (k j : ℕ) → j < length xs → get_or xs j 0 ≡ k → list_any (λ x. eqb x k) xs ≡ true
list_at xs k j lt e = list_any_at (λ x. eqb x k) xs j 0 lt (eq-eqb _ _ e)

pub list_where : (xs : List ℕ) (k : ℕ) → list_any (λ x. eqb x k) xs ≡ true → (j : ℕ) × (j < length xs) × (get_or xs j 0 ≡ k)
list_where xs k e =
    let h = Any-from_list_any (λ x. eqb x k) xs e in
    (h.0, h.2, get_or_default xs h.0 0 h.1 h.2 ∙ h.3 ∙ eqb-true _ _ h.4)

pub cell_by : (a b : Lit) (x y : Bool) → a.positive ≡ x → b.positive ≡ y → 2 * a.var + one a.positive ≡ 2 * b.var + one b.positive → a ≡ b
cell_by a b true true e f g = lit_same a b (omega (arith, ap one e, ap one f, g)) (e ∙ sym f)
cell_by a b true false e f g = absurd (omega (arith, ap one e, ap one f, g))
cell_by a b false true e f g = absurd (omega (arith, ap one e, ap one f, g))
cell_by a b false false e f g = lit_same a b (omega (arith, ap one e, ap one f, g)) (e ∙ sym f)

pub cell_same : (a b : Lit) → cell a ≡ cell b → a ≡ b
cell_same a b e = cell_by a b a.positive b.positive refl refl e
