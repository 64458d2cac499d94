use Rattle.std.proofs.Common.{◌≡◌, ℕ, ◌<◌, ◌≤◌, ◌+◌, ◌-◌, ◌||◌, Bool, true, false, not, eqb, List, [], ◌∷◌, ◌++◌, length, take, get_or, refl, sym, subst, ap, ◌∙◌, inl, inr, ◌⊎◌, arith, set, replicate, eqb-true, eq-eqb, get_or-set_other, get_or-set_same, length-append}
use Rattle.std.specs.List.{All, Contains, list_any}
use Rattle.std.proofs.Math.Seq.{get_or-append_seam}
use Rattle.std.proofs.lemmas.Bool.{cases_Bool, cases_eq, cases_lt, both_ways}
use Rattle.std.proofs.lemmas.List.{get_or_default, get_or_append_left, get_or-take, length-take-le, take_more, get_or_past, get_or-replicate, length-replicate}
use Rattle.std.proofs.lemmas.List.Folds.{Any-from_list_any, list_any_at, list_any-append}
use Rattle.std.proofs.lemmas.List.Elements.{All-take, All-push}
use Rattle.clause_core.specs.declared.literal.Lit.{Lit}
use Rattle.clause_core.specs.Literals.{negate, none_lit, at, Within}
use Rattle.clause_core.specs.Values.{code, holds}
use Rattle.sat_prop.specs.Trails.{PlacesMatch, Forced}
use Rattle.clause_core.specs.Propagation.{UnitIn}
use Rattle.clause_core.proofs.Lists.{lit_same}
use Rattle.clause_core.proofs.Setting.{code_same}
use Rattle.sat_prop.specs.Trails.{is_literal, among, ValuesMatch, reason_at, StartsRise, StartsIn, DecisionsBegin, Reasoned}

pub lit_is_same : (l m : Lit) → is_literal l m ≡ true → l ≡ m
lit_is_same l m e =
    elim (cases_Bool (eqb m.var l.var)) [
      | inl on ↦
          let f : eqb (code m.positive) (code l.positive) ≡ true = rw on at e in
          lit_same l m (sym (eqb-true _ _ on)) (sym (code_same m.positive l.positive (eqb-true _ _ f)))
      | inr off ↦ let f : false ≡ true = rw off at e in cc
    ]

pub lit_is_itself : (l : Lit) → is_literal l l ≡ true
lit_is_itself l = rw (eq-eqb l.var l.var refl, eq-eqb (code l.positive) (code l.positive) refl) refl

pub among_at : (tr : List Lit) (q : ℕ) → q < length tr → among tr (at tr q) ≡ true
among_at tr q lt = list_any_at (is_literal (at tr q)) tr q none_lit lt (lit_is_itself (at tr q))

pub among_where : (tr : List Lit) (l : Lit) → among tr l ≡ true → (q : ℕ) × (q < length tr) × (at tr q ≡ l)
among_where tr l e =
    let h = Any-from_list_any (is_literal l) tr e in
    let same : l ≡ h.1 = lit_is_same l h.1 h.4 in
    (h.0, h.2, get_or_default tr h.0 none_lit h.1 h.2 ∙ h.3 ∙ sym same)

pub among_here : (tr : List Lit) (q : ℕ) (l : Lit) → q < length tr → at tr q ≡ l → among tr l ≡ true
among_here tr q l lt e = let P : Lit → Type 0 = λ x. among tr x ≡ true in subst P e (among_at tr q lt)

pub at_take : (tr : List Lit) (n q : ℕ) → q < n → at (take n tr) q ≡ at tr q
at_take tr n q lt = get_or-take n tr q none_lit lt

pub among_take_here : (tr : List Lit) (n q : ℕ) (l : Lit) → n ≤ length tr → q < n → at tr q ≡ l → among (take n tr) l ≡ true
among_take_here tr n q l le lt e =
    let in' : q < length (take n tr) = omega (arith, length-take-le n tr le) in
    among_here (take n tr) q l in' (at_take tr n q lt ∙ e)

pub among_take_where : (tr : List Lit) (n : ℕ) (l : Lit) → n ≤ length tr → among (take n tr) l ≡ true →
    (q : ℕ) × (q < n) × (at tr q ≡ l)
among_take_where tr n l le e =
    let h = among_where (take n tr) l e in
    let lt : h.0 < n = omega (arith, h.1, length-take-le n tr le) in
    (h.0, lt, sym (at_take tr n h.0 lt) ∙ h.2)

pub place_same : (tr : List Lit) (positions : List ℕ) (q r : ℕ) → PlacesMatch tr positions → q < length tr → r < length tr →
    (at tr q).var ≡ (at tr r).var → q ≡ r
place_same tr positions q r ok lq lr e = sym (ok q lq) ∙ ap (λ v. get_or positions v 0) e ∙ ok r lr

pub flip_not_same : (x : Bool) → x ≡ not x → ⊥
flip_not_same true e = cc
flip_not_same false e = cc

-- no literal stands on the trail beside its negation
pub one_side : (tr : List Lit) (positions : List ℕ) (l : Lit) (q r : ℕ) → PlacesMatch tr positions → q < length tr → r < length tr →
    at tr q ≡ l → at tr r ≡ negate l → ⊥
one_side tr positions l q r ok lq lr e f =
    let v : (at tr q).var ≡ (at tr r).var = ap (λ (x : Lit). x.var) e ∙ sym (ap (λ (x : Lit). x.var) f) in
    let same : q ≡ r = place_same tr positions q r ok lq lr v in
    let P : ℕ → Type 0 = λ x. at tr x ≡ negate l in
    let g : l ≡ negate l = sym e ∙ subst P (sym same) f in
    flip_not_same l.positive (ap (λ (x : Lit). x.positive) g)

pub among_one_side : (tr : List Lit) (positions : List ℕ) (n : ℕ) (l : Lit) → PlacesMatch tr positions → n ≤ length tr →
    among (take n tr) l ≡ true → among (take n tr) (negate l) ≡ true → ⊥
among_one_side tr positions n l ok le e f =
    let a = among_take_where tr n l le e in
    let b = among_take_where tr n (negate l) le f in
    let la : a.0 < length tr = omega (arith, a.1) in
    let lb : b.0 < length tr = omega (arith, b.1) in
    one_side tr positions l a.0 b.0 ok la lb a.2 b.2

-- one more literal
pub among_push : (tr : List Lit) (l m : Lit) → among (tr ++ l ∷ []) m ≡ (among tr m || (is_literal m l || false))
among_push tr l m = list_any-append (is_literal m) tr (l ∷ [])

pub or_false : (x : Bool) → (x || false) ≡ x
or_false true = refl
or_false false = refl

pub at_low : (tr : List Lit) (l : Lit) (q : ℕ) → q < length tr → at (tr ++ l ∷ []) q ≡ at tr q
at_low tr l q lt = get_or_append_left tr (l ∷ []) none_lit q lt

pub at_end : (tr : List Lit) (l : Lit) → at (tr ++ l ∷ []) (length tr) ≡ l
at_end tr l = get_or-append_seam tr l [] none_lit

pub polar : (x y : Bool) → (x ≡ y) ⊎ (x ≡ not y)
polar true true = inl refl
polar true false = inr refl
polar false true = inr refl
polar false false = inl refl

-- a literal of the variable of l is l or its negation
pub lit_polar : (m l : Lit) → m.var ≡ l.var → (m ≡ l) ⊎ (m ≡ negate l)
lit_polar m l e =
    elim (polar m.positive l.positive) [
      | inl f ↦ inl (lit_same m l e f)
      | inr f ↦ inr (lit_same m (negate l) e f)
    ]

pub holds_off : (v : List ℕ) (l m : Lit) → m.var ≡ l.var → holds v l ≡ false → holds v (negate l) ≡ false → holds v m ≡ false
holds_off v l m e a b =
    elim (lit_polar m l e) [
      | inl s ↦ rw s a
      | inr s ↦ rw s b
    ]

pub eqb_apart : (a b : ℕ) → (a ≡ b → ⊥) → eqb a b ≡ false
eqb_apart a b ne =
    elim (cases_Bool (eqb a b)) [
      | inl on ↦ absurd (ne (eqb-true _ _ on))
      | inr off ↦ off
    ]

pub zero_off : (x : Bool) → eqb 0 (code x) ≡ false
zero_off true = refl
zero_off false = refl

pub values_push : (v : List ℕ) (tr : List Lit) (l : Lit) → l.var < length v → holds v l ≡ false → holds v (negate l) ≡ false →
    ValuesMatch v tr → ValuesMatch (set v l.var (code l.positive)) (tr ++ l ∷ [])
values_push v tr l lt a b ok m =
    let w = set v l.var (code l.positive) in
    elim (cases_eq m.var l.var) [
      | inl same ↦
          let off : among tr m ≡ false = ok m ∙ holds_off v l m same a b in
          let x : among (tr ++ l ∷ []) m ≡ is_literal m l = among_push tr l m ∙ (rw off (or_false (is_literal m l))) in
          let y : is_literal m l ≡ eqb (code l.positive) (code m.positive) = rw (eq-eqb l.var m.var (sym same)) refl in
          let z : get_or w m.var 0 ≡ code l.positive = rw same (get_or-set_same v l.var (code l.positive) 0 lt) in
          let u : holds w m ≡ eqb (code l.positive) (code m.positive) = ap (λ n. eqb n (code m.positive)) z in
          x ∙ y ∙ sym u
      | inr ne ↦
          let off : eqb l.var m.var ≡ false = eqb_apart l.var m.var (λ e. ne (sym e)) in
          let y : is_literal m l ≡ false = rw off refl in
          let x : among (tr ++ l ∷ []) m ≡ among tr m = among_push tr l m ∙ (rw y (or_false (among tr m))) in
          let z : get_or w m.var 0 ≡ get_or v m.var 0 = rw get_or-set_other refl in
          let u : holds w m ≡ holds v m = ap (λ n. eqb n (code m.positive)) z in
          x ∙ ok m ∙ sym u
    ]

-- a literal on the trail is not of the variable of l, which is not set
pub fresh : (v : List ℕ) (tr : List Lit) (l : Lit) (q : ℕ) → ValuesMatch v tr → holds v l ≡ false → holds v (negate l) ≡ false →
    q < length tr → (at tr q).var ≡ l.var → ⊥
fresh v tr l q ok a b lt e =
    both_ways (holds v (at tr q)) (holds_off v l (at tr q) e a b) (sym (ok (at tr q)) ∙ among_at tr q lt)

pub place_push : (v positions : List ℕ) (tr : List Lit) (l : Lit) → l.var < length positions → ValuesMatch v tr →
    holds v l ≡ false → holds v (negate l) ≡ false → PlacesMatch tr positions → PlacesMatch (tr ++ l ∷ []) (set positions l.var (length tr))
place_push v positions tr l lp vals a b ok q lq =
    elim (cases_lt q (length tr)) [
      | inl lt ↦
          let e : at (tr ++ l ∷ []) q ≡ at tr q = at_low tr l q lt in
          let ne : (at tr q).var ≡ l.var → ⊥ = fresh v tr l q vals a b lt in
          rw e (rw get_or-set_other (ok q lt))
      | inr ge ↦
          let last : q ≡ length tr = omega (arith, lq, length-append tr (l ∷ [])) in
          let e : at (tr ++ l ∷ []) q ≡ l = rw last (at_end tr l) in
          rw (e, last) (get_or-set_same positions l.var (length tr) 0 lp)
    ]

pub why_kept : (v reasons : List ℕ) (tr : List Lit) (l : Lit) (n p : ℕ) → ValuesMatch v tr →
    holds v l ≡ false → holds v (negate l) ≡ false → p < length tr →
    reason_at (tr ++ l ∷ []) (set reasons l.var n) p ≡ reason_at tr reasons p
why_kept v reasons tr l n p vals a b lt =
    let e : at (tr ++ l ∷ []) p ≡ at tr p = at_low tr l p lt in
    let ne : (at tr p).var ≡ l.var → ⊥ = fresh v tr l p vals a b lt in
    rw e (rw get_or-set_other refl)

pub why_last : (reasons : List ℕ) (tr : List Lit) (l : Lit) (n : ℕ) → l.var < length reasons →
    reason_at (tr ++ l ∷ []) (set reasons l.var n) (length tr) ≡ n
why_last reasons tr l n lw = rw (at_end tr l) (get_or-set_same reasons l.var n 0 lw)

pub forced_low : (tr : List Lit) (l : Lit) (p : ℕ) (c : List Lit) → p < length tr → Forced tr p c → Forced (tr ++ l ∷ []) p c
forced_low tr l p c lt f =
    let e : at (tr ++ l ∷ []) p ≡ at tr p = at_low tr l p lt in
    let P : Lit → Type 0 = λ x. Contains c x × All (λ m. (m ≡ x → ⊥) → (q : ℕ) × (q < p) × (at (tr ++ l ∷ []) q ≡ negate m)) c in
    let g : P (at tr p) = (f.0, λ j d lj ne. let h = f.1 j d lj ne in let lh : h.0 < length tr = omega (arith, h.1) in (h.0, h.1, at_low tr l h.0 lh ∙ h.2)) in
    subst P (sym e) g

pub forced_last : (v : List ℕ) (tr : List Lit) (l : Lit) (c : List Lit) → ValuesMatch v tr → UnitIn (holds v) c l → Forced (tr ++ l ∷ []) (length tr) c
forced_last v tr l c vals u =
    let e : at (tr ++ l ∷ []) (length tr) ≡ l = at_end tr l in
    let P : Lit → Type 0 = λ x. Contains c x × All (λ m. (m ≡ x → ⊥) → (q : ℕ) × (q < length tr) × (at (tr ++ l ∷ []) q ≡ negate m)) c in
    let g : P l = (
      u.0,
      λ j d lj ne.
          let m = get_or c j d in
          let h = among_where tr (negate m) (vals (negate m) ∙ u.1 j d lj ne) in
          (h.0, h.1, at_low tr l h.0 h.1 ∙ h.2),
    ) in
    subst P (sym e) g

pub reasoned_push : (v reasons : List ℕ) (tr : List Lit) (cs : List (List Lit)) (l : Lit) (k : ℕ) → l.var < length reasons → ValuesMatch v tr →
    holds v l ≡ false → holds v (negate l) ≡ false → k < length cs → UnitIn (holds v) (get_or cs k []) l →
    Reasoned tr reasons cs → Reasoned (tr ++ l ∷ []) (set reasons l.var (k + 1)) cs
reasoned_push v reasons tr cs l k lw vals a b lk u ok p lp pos =
    let w = set reasons l.var (k + 1) in
    elim (cases_lt p (length tr)) [
      | inl lt ↦
          let e : reason_at (tr ++ l ∷ []) w p ≡ reason_at tr reasons p = why_kept v reasons tr l (k + 1) p vals a b lt in
          let P : ℕ → Type 0 = λ n. (n ≤ length cs) × Forced (tr ++ l ∷ []) p (get_or cs (n - 1) []) in
          let h = ok p lt (omega (arith, e, pos)) in
          let g : P (reason_at tr reasons p) = (h.0, forced_low tr l p (get_or cs (reason_at tr reasons p - 1) []) lt h.1) in
          subst P (sym e) g
      | inr ge ↦
          let last : p ≡ length tr = omega (arith, lp, length-append tr (l ∷ [])) in
          let e : reason_at (tr ++ l ∷ []) w (length tr) ≡ k + 1 = why_last reasons tr l (k + 1) lw in
          let back : k + 1 - 1 ≡ k = omega arith in
          let P : ℕ → Type 0 = λ n. (n ≤ length cs) × Forced (tr ++ l ∷ []) (length tr) (get_or cs (n - 1) []) in
          let Q : ℕ → Type 0 = λ n. Forced (tr ++ l ∷ []) (length tr) (get_or cs n []) in
          let g : P (k + 1) = (omega arith, subst Q (sym back) (forced_last v tr l (get_or cs k []) vals u)) in
          let R : ℕ → Type 0 = λ x. (reason_at (tr ++ l ∷ []) w x ≤ length cs) × Forced (tr ++ l ∷ []) x (get_or cs (reason_at (tr ++ l ∷ []) w x - 1) []) in
          let h : R (length tr) = subst P (sym e) g in
          subst R (sym last) h
    ]

pub reasoned_take : (reasons : List ℕ) (tr : List Lit) (cs : List (List Lit)) (n : ℕ) → n ≤ length tr → Reasoned tr reasons cs → Reasoned (take n tr) reasons cs
reasoned_take reasons tr cs n le ok p lp pos =
    let lt : p < n = omega (arith, lp, length-take-le n tr le) in
    let lt' : p < length tr = omega arith in
    let e : at (take n tr) p ≡ at tr p = at_take tr n p lt in
    let ew : reason_at (take n tr) reasons p ≡ reason_at tr reasons p = ap (λ (x : Lit). get_or reasons x.var 0) e in
    let h = ok p lt' (omega (arith, ew, pos)) in
    let c = get_or cs (reason_at tr reasons p - 1) [] in
    let P : Lit → Type 0 = λ x. Contains c x × All (λ m. (m ≡ x → ⊥) → (q : ℕ) × (q < p) × (at (take n tr) q ≡ negate m)) c in
    let g : P (at tr p) = (h.1.0, λ j d lj ne. let u = h.1.1 j d lj ne in let lu : u.0 < n = omega (arith, u.1) in (u.0, u.1, at_take tr n u.0 lu ∙ u.2)) in
    let f : Forced (take n tr) p c = subst P (sym e) g in
    let Q : ℕ → Type 0 = λ x. (x ≤ length cs) × Forced (take n tr) p (get_or cs (x - 1) []) in
    let r : Q (reason_at tr reasons p) = (h.0, f) in
    subst Q (sym ew) r

pub reasoned_more : (reasons : List ℕ) (tr : List Lit) (cs bs : List (List Lit)) → Reasoned tr reasons cs → Reasoned tr reasons (cs ++ bs)
reasoned_more reasons tr cs bs ok p lp pos =
    let h = ok p lp pos in
    let k = reason_at tr reasons p - 1 in
    let lk : k < length cs = omega (arith, h.0) in
    let e : get_or (cs ++ bs) k [] ≡ get_or cs k [] = get_or_append_left cs bs [] k lk in
    (omega (arith, h.0, length-append cs bs), rw e h.1)

-- one literal fewer
pub values_pop : (v positions : List ℕ) (tr : List Lit) (p : ℕ) → p < length tr → PlacesMatch tr positions → (at tr p).var < length v →
    ValuesMatch v (take (p + 1) tr) → ValuesMatch (set v (at tr p).var 0) (take p tr)
values_pop v positions tr p lt ok in_v vals m =
    let l = at tr p in
    let le : p ≤ length tr = omega arith in
    elim (cases_eq m.var l.var) [
      | inl same ↦
          let x : among (take p tr) m ≡ false =
          elim (cases_Bool (among (take p tr) m)) [
            | inl on ↦
                let h = among_take_where tr p m le on in
                let lh : h.0 < length tr = omega (arith, h.1) in
                let e : (at tr h.0).var ≡ (at tr p).var = ap (λ (y : Lit). y.var) h.2 ∙ same in
                absurd (omega (arith, h.1, place_same tr positions h.0 p ok lh lt e))
            | inr off ↦ off
          ] in
          let z : get_or (set v l.var 0) m.var 0 ≡ 0 = rw same (get_or-set_same v l.var 0 0 in_v) in
          let u : holds (set v l.var 0) m ≡ eqb 0 (code m.positive) = ap (λ n. eqb n (code m.positive)) z in
          x ∙ sym (u ∙ zero_off m.positive)
      | inr ne ↦
          let split : take (p + 1) tr ≡ take p tr ++ l ∷ [] = take_more tr p none_lit lt in
          let off : eqb l.var m.var ≡ false = eqb_apart l.var m.var (λ e. ne (sym e)) in
          let y : is_literal m l ≡ false = rw off refl in
          let w : among (take (p + 1) tr) m ≡ among (take p tr) m = ap (λ xs. among xs m) split ∙ among_push (take p tr) l m ∙ (rw y (or_false (among (take p tr) m))) in
          let z : get_or (set v l.var 0) m.var 0 ≡ get_or v m.var 0 = rw get_or-set_other refl in
          let u : holds (set v l.var 0) m ≡ holds v m = ap (λ n. eqb n (code m.positive)) z in
          sym w ∙ vals m ∙ sym u
    ]

pub place_take : (tr : List Lit) (positions : List ℕ) (n : ℕ) → n ≤ length tr → PlacesMatch tr positions → PlacesMatch (take n tr) positions
place_take tr positions n le ok q lq =
    let lt : q < n = omega (arith, lq, length-take-le n tr le) in
    let lt' : q < length tr = omega arith in
    let e : at (take n tr) q ≡ at tr q = at_take tr n q lt in
    rw e (ok q lt')

pub starts_take : (level_starts : List ℕ) (tr : List Lit) (k : ℕ) → k < length level_starts → StartsRise level_starts → StartsIn level_starts tr →
    StartsIn (take k level_starts) (take (get_or level_starts k 0) tr)
starts_take level_starts tr k lk up ins i li =
    let n = get_or level_starts k 0 in
    let le : n ≤ length tr = omega (arith, ins k lk) in
    let lt : i < k = omega (arith, li, length-take-le k level_starts (omega arith)) in
    let e : get_or (take k level_starts) i 0 ≡ get_or level_starts i 0 = get_or-take k level_starts i 0 lt in
    omega (arith, e, up i k lt lk, length-take-le n tr le)

pub up_take : (level_starts : List ℕ) (k : ℕ) → k ≤ length level_starts → StartsRise level_starts → StartsRise (take k level_starts)
up_take level_starts k le up i j lij lj =
    let lt : j < k = omega (arith, lj, length-take-le k level_starts le) in
    let lt' : i < k = omega arith in
    let e : get_or (take k level_starts) i 0 ≡ get_or level_starts i 0 = get_or-take k level_starts i 0 lt' in
    let f : get_or (take k level_starts) j 0 ≡ get_or level_starts j 0 = get_or-take k level_starts j 0 lt in
    omega (arith, e, f, up i j lij (omega arith))

pub start_at : (level_starts : List ℕ) (p : ℕ) → list_any (λ s. eqb s p) level_starts ≡ true → (i : ℕ) × (i < length level_starts) × (get_or level_starts i 0 ≡ p)
start_at level_starts p e =
    let h = Any-from_list_any (λ s. eqb s p) level_starts e in
    (h.0, h.2, get_or_default level_starts h.0 0 h.1 h.2 ∙ h.3 ∙ eqb-true _ _ h.4)

pub start_here : (level_starts : List ℕ) (i p : ℕ) → i < length level_starts → get_or level_starts i 0 ≡ p → list_any (λ s. eqb s p) level_starts ≡ true
start_here level_starts i p lt e = list_any_at (λ s. eqb s p) level_starts i 0 lt (eq-eqb _ _ e)

pub roots_take : (level_starts reasons : List ℕ) (tr : List Lit) (k : ℕ) → k < length level_starts → StartsRise level_starts → StartsIn level_starts tr →
    DecisionsBegin tr reasons level_starts → DecisionsBegin (take (get_or level_starts k 0) tr) reasons (take k level_starts)
roots_take level_starts reasons tr k lk up ins roots p lp e =
    let n = get_or level_starts k 0 in
    let le : n ≤ length tr = omega (arith, ins k lk) in
    let lt : p < n = omega (arith, lp, length-take-le n tr le) in
    let lt' : p < length tr = omega arith in
    let same : at (take n tr) p ≡ at tr p = at_take tr n p lt in
    let ew : reason_at (take n tr) reasons p ≡ reason_at tr reasons p = ap (λ (x : Lit). get_or reasons x.var 0) same in
    let h = start_at level_starts p (roots p lt' (sym ew ∙ e)) in
    let li : h.0 < k = elim (cases_lt h.0 k) [
      | inl l ↦ l
      | inr g ↦ elim (cases_eq h.0 k) [
        | inl s ↦ let f : n ≡ p = (rw (← s) h.2) in absurd (omega arith)
        | inr ne ↦ absurd (omega (arith, up k h.0 (omega arith) h.1, h.2))
      ]
    ] in
    let ls : h.0 < length (take k level_starts) = omega (arith, length-take-le k level_starts (omega arith)) in
    start_here (take k level_starts) h.0 p ls (get_or-take k level_starts h.0 0 li ∙ h.2)

pub within_take : (vars : ℕ) (tr : List Lit) (n : ℕ) → Within vars tr → Within vars (take n tr)
within_take vars tr n h = All-take (λ l. l.var < vars) n tr h

pub in_push : (level_starts : List ℕ) (tr : List Lit) (l : Lit) → StartsIn level_starts tr → StartsIn level_starts (tr ++ l ∷ [])
in_push level_starts tr l ins i li = omega (arith, ins i li, length-append tr (l ∷ []))

pub roots_push : (v level_starts reasons : List ℕ) (tr : List Lit) (l : Lit) (n : ℕ) → l.var < length reasons → ValuesMatch v tr → holds v l ≡ false → holds v (negate l) ≡ false →
    0 < n → DecisionsBegin tr reasons level_starts → DecisionsBegin (tr ++ l ∷ []) (set reasons l.var n) level_starts
roots_push v level_starts reasons tr l n lw vals a b pos roots p lp e =
    elim (cases_lt p (length tr)) [
      | inl lt ↦ roots p lt (sym (why_kept v reasons tr l n p vals a b lt) ∙ e)
      | inr ge ↦
          let last : p ≡ length tr = omega (arith, lp, length-append tr (l ∷ [])) in
          let f : reason_at (tr ++ l ∷ []) (set reasons l.var n) (length tr) ≡ n = why_last reasons tr l n lw in
          let P : ℕ → Type 0 = λ x. reason_at (tr ++ l ∷ []) (set reasons l.var n) x ≡ 0 in
          let g : P (length tr) = subst P last e in
          absurd (omega (arith, f, g))
    ]

-- a decision
pub up_push : (level_starts : List ℕ) (tr : List Lit) → StartsRise level_starts → StartsIn level_starts tr → StartsRise (level_starts ++ length tr ∷ [])
up_push level_starts tr up ins i j lij lj =
    let li : i < length level_starts = omega (arith, lj, length-append level_starts (length tr ∷ [])) in
    let e : get_or (level_starts ++ length tr ∷ []) i 0 ≡ get_or level_starts i 0 = get_or_append_left level_starts (length tr ∷ []) 0 i li in
    elim (cases_lt j (length level_starts)) [
      | inl lt ↦
          let f : get_or (level_starts ++ length tr ∷ []) j 0 ≡ get_or level_starts j 0 = get_or_append_left level_starts (length tr ∷ []) 0 j lt in
          omega (arith, e, f, up i j lij lt)
      | inr ge ↦
          let last : j ≡ length level_starts = omega (arith, lj, length-append level_starts (length tr ∷ [])) in
          let f : get_or (level_starts ++ length tr ∷ []) j 0 ≡ length tr = rw last (get_or-append_seam level_starts (length tr) [] 0) in
          omega (arith, e, f, ins i li)
    ]

pub in_decide : (level_starts : List ℕ) (tr : List Lit) (l : Lit) → StartsIn level_starts tr → StartsIn (level_starts ++ length tr ∷ []) (tr ++ l ∷ [])
in_decide level_starts tr l ins i li =
    let more : length (tr ++ l ∷ []) ≡ length tr + 1 = length-append tr (l ∷ []) in
    elim (cases_lt i (length level_starts)) [
      | inl lt ↦
          let f : get_or (level_starts ++ length tr ∷ []) i 0 ≡ get_or level_starts i 0 = get_or_append_left level_starts (length tr ∷ []) 0 i lt in
          omega (arith, f, more, ins i lt)
      | inr ge ↦
          let last : i ≡ length level_starts = omega (arith, li, length-append level_starts (length tr ∷ [])) in
          let f : get_or (level_starts ++ length tr ∷ []) i 0 ≡ length tr = rw last (get_or-append_seam level_starts (length tr) [] 0) in
          omega (arith, f, more)
    ]

pub roots_decide : (v level_starts reasons : List ℕ) (tr : List Lit) (l : Lit) → ValuesMatch v tr → holds v l ≡ false → holds v (negate l) ≡ false →
    DecisionsBegin tr reasons level_starts → DecisionsBegin (tr ++ l ∷ []) (set reasons l.var 0) (level_starts ++ length tr ∷ [])
roots_decide v level_starts reasons tr l vals a b roots p lp e =
    elim (cases_lt p (length tr)) [
      | inl lt ↦
          let h = start_at level_starts p (roots p lt (sym (why_kept v reasons tr l 0 p vals a b lt) ∙ e)) in
          start_here (level_starts ++ length tr ∷ []) h.0 p (omega (arith, h.1, length-append level_starts (length tr ∷ [])))
          (get_or_append_left level_starts (length tr ∷ []) 0 h.0 h.1 ∙ h.2)
      | inr ge ↦
          let last : p ≡ length tr = omega (arith, lp, length-append tr (l ∷ [])) in
          start_here (level_starts ++ length tr ∷ []) (length level_starts) p (omega (arith, length-append level_starts (length tr ∷ [])))
          (get_or-append_seam level_starts (length tr) [] 0 ∙ sym last)
    ]

pub within_push : (vars : ℕ) (tr : List Lit) (l : Lit) → l.var < vars → Within vars tr → Within vars (tr ++ l ∷ [])
within_push vars tr l lt h = All-push (λ m. m.var < vars) tr l h lt

pub zeros_ok : (n : ℕ) → ValuesMatch (replicate n 0) []
zeros_ok n l =
    elim (cases_lt l.var n) [
      | inl lt ↦ let z : get_or (replicate n 0) l.var 0 ≡ 0 = get_or-replicate n l.var 0 0 lt in
          let u : holds (replicate n 0) l ≡ eqb 0 (code l.positive) = ap (λ n. eqb n (code l.positive)) z in sym (u ∙ zero_off l.positive)
      | inr ge ↦ let z : get_or (replicate n 0) l.var 0 ≡ 0 = get_or_past (replicate n 0) l.var 0 (omega (arith, length-replicate {A = ℕ} n 0)) in
          let u : holds (replicate n 0) l ≡ eqb 0 (code l.positive) = ap (λ n. eqb n (code l.positive)) z in sym (u ∙ zero_off l.positive)
    ]

pub reasoned_decide : (v reasons : List ℕ) (tr : List Lit) (cs : List (List Lit)) (l : Lit) → l.var < length reasons → ValuesMatch v tr →
    holds v l ≡ false → holds v (negate l) ≡ false → Reasoned tr reasons cs → Reasoned (tr ++ l ∷ []) (set reasons l.var 0) cs
reasoned_decide v reasons tr cs l lw vals a b ok p lp pos =
    let w = set reasons l.var 0 in
    elim (cases_lt p (length tr)) [
      | inl lt ↦
          let e : reason_at (tr ++ l ∷ []) w p ≡ reason_at tr reasons p = why_kept v reasons tr l 0 p vals a b lt in
          let P : ℕ → Type 0 = λ n. (n ≤ length cs) × Forced (tr ++ l ∷ []) p (get_or cs (n - 1) []) in
          let h = ok p lt (omega (arith, e, pos)) in
          let g : P (reason_at tr reasons p) = (h.0, forced_low tr l p (get_or cs (reason_at tr reasons p - 1) []) lt h.1) in
          subst P (sym e) g
      | inr ge ↦
          let last : p ≡ length tr = omega (arith, lp, length-append tr (l ∷ [])) in
          let e : reason_at (tr ++ l ∷ []) w (length tr) ≡ 0 = why_last reasons tr l 0 lw in
          let R : ℕ → Type 0 = λ x. 0 < reason_at (tr ++ l ∷ []) w x in
          let h : R (length tr) = subst R last pos in
          absurd (omega (arith, h, e))
    ]
