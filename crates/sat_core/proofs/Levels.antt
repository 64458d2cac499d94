use Rattle.std.proofs.Common.{◌≡◌, ℕ, ◌<◌, ◌≤◌, ◌-◌, Bool, true, false, List, [], ◌∷◌, ◌++◌, length, take, get_or, zero, suc, refl, sym, subst, ap, ◌∙◌, inl, inr, arith, length-append}
use Rattle.std.proofs.Math.Seq.{get_or-append_seam}
use Rattle.std.proofs.lemmas.Bool.{cases_Bool, cases_eq, cases_lt}
use Rattle.std.proofs.lemmas.List.{get_or-map, get_or_default, get_or_append_left, get_or-take, length-take-le, take-take, take_all, take-append-le, length-map}
use Rattle.clause_core.specs.declared.literal.Lit.{Lit}
use Rattle.clause_core.specs.Literals.{negate, none_lit, at}
use Rattle.clause_core.specs.Propagation.{AllFalse, Closed}
use Rattle.sat_prop.specs.Trails.{PlacesMatch}
use Rattle.clause_core.specs.Propagation.{Holds, Reaches, Conflicting, DecisionsOpen}
use Rattle.clause_core.proofs.Live.{not_reached, not_conflicting}
use Rattle.sat_prop.specs.Trails.{among, AtRest, FalseOn, Reasoned, DecisionsBegin, StartsRise, StartsIn, reason_at}
use Rattle.sat_prop.proofs.Ways.{among_take_here, among_take_where, among_one_side, place_same, at_take, at_end, start_at}
use Rattle.sat_core.specs.Searching.{decided, PerLevel}

-- a closed set that holds the decisions below n holds the first n places
pub held_below : (tr : List Lit) (reasons level_starts : List ℕ) (cs : List (List Lit)) (t : Lit → Bool) → Reasoned tr reasons cs → DecisionsBegin tr reasons level_starts →
    Closed t cs → (n : ℕ) → n ≤ length tr →
    ((i : ℕ) → i < length level_starts → get_or level_starts i 0 < n → t (at tr (get_or level_starts i 0)) ≡ true) →
    (q : ℕ) → q < n → t (at tr q) ≡ true
held_below tr reasons level_starts cs t ok roots closed zero le decisions q lt = absurd (omega (arith, lt))
held_below tr reasons level_starts cs t ok roots closed (suc n) le decisions q lt =
    let below : (p : ℕ) → p < n → t (at tr p) ≡ true =
    held_below tr reasons level_starts cs t ok roots closed n (omega arith) (λ i li l. decisions i li (omega arith)) in
    let ln : n < length tr = omega arith in
    let last : t (at tr n) ≡ true =
    elim (cases_eq (reason_at tr reasons n) 0) [
      | inl none ↦
          let h = start_at level_starts n (roots n ln none) in
          let P : ℕ → Type 0 = λ s. t (at tr s) ≡ true in
          subst P h.2 (decisions h.0 h.1 (omega (arith, h.2)))
      | inr some ↦
          let r = ok n ln (omega (arith, some)) in
          closed (reason_at tr reasons n - 1) [] (omega (arith, r.0, some)) (at tr n) (
            r.1.0,
            λ j d l ne.
                let h = r.1.1 j d l ne in
                ap t (sym h.2) ∙ below h.0 h.1,
          )
    ] in
    elim (cases_lt q n) [
      | inl l ↦ below q l
      | inr g ↦ let same : q ≡ n = omega arith in rw same last
    ]

pub decided_at : (tr : List Lit) (level_starts : List ℕ) (i : ℕ) → i < length level_starts → at (decided tr level_starts) i ≡ at tr (get_or level_starts i 0)
decided_at tr level_starts i lt = get_or-map (λ s. at tr s) level_starts i 0 none_lit lt

pub decided_length : (tr : List Lit) (level_starts : List ℕ) → length (decided tr level_starts) ≡ length level_starts
decided_length tr level_starts = simp length-map

-- a set that holds the decisions holds each of them
pub holds_each : (t : Lit → Bool) (tr : List Lit) (level_starts : List ℕ) → Holds t (decided tr level_starts) →
    (i : ℕ) → i < length level_starts → t (at tr (get_or level_starts i 0)) ≡ true
holds_each t tr level_starts h i lt =
    let li : i < length (decided tr level_starts) = omega (arith, decided_length tr level_starts) in
    ap t (sym (decided_at tr level_starts i lt)) ∙ h i none_lit li

-- the first literals are reached from the decisions among them
pub reached : (tr : List Lit) (reasons level_starts : List ℕ) (cs : List (List Lit)) → Reasoned tr reasons cs → DecisionsBegin tr reasons level_starts → StartsRise level_starts →
    (k : ℕ) → k < length level_starts → (n : ℕ) → n ≤ length tr → n ≤ get_or level_starts k 0 →
    (q : ℕ) → q < n → Reaches cs (take k (decided tr level_starts)) (at tr q)
reached tr reasons level_starts cs ok roots up k lk n le below q lq t holds closed =
    held_below tr reasons level_starts cs t ok roots closed n le
    (λ i li ls.
    let ik : i < k = elim (cases_lt i k) [
      | inl l ↦ l
      | inr g ↦ elim (cases_eq i k) [
        | inl s ↦ let e : get_or level_starts i 0 ≡ get_or level_starts k 0 = rw s refl in absurd (omega (arith, e))
        | inr ne ↦ absurd (omega (arith, up k i (omega arith) li))
      ]
    ] in
    let lk' : k ≤ length (decided tr level_starts) = omega (arith, decided_length tr level_starts) in
    let lt : i < length (take k (decided tr level_starts)) = omega (arith, length-take-le k (decided tr level_starts) lk') in
    let e : at (take k (decided tr level_starts)) i ≡ at tr (get_or level_starts i 0) = get_or-take k (decided tr level_starts) i none_lit ik ∙ decided_at tr level_starts i li in
    ap t (sym e) ∙ holds i none_lit lt)
    q lq

-- all of the trail is reached from all decisions
pub reached_all : (tr : List Lit) (reasons level_starts : List ℕ) (cs : List (List Lit)) → Reasoned tr reasons cs → DecisionsBegin tr reasons level_starts →
    (q : ℕ) → q < length tr → Reaches cs (decided tr level_starts) (at tr q)
reached_all tr reasons level_starts cs ok roots q lq t holds closed =
    held_below tr reasons level_starts cs t ok roots closed (length tr) (omega arith) (λ i li ls. holds_each t tr level_starts holds i li) q lq

pub read_itself : (cs : List (List Lit)) (k : ℕ) → k < length cs → get_or cs k (get_or cs k []) ≡ get_or cs k []
read_itself cs k lk = get_or_default cs k (get_or cs k []) [] lk

pub conflicting : (tr : List Lit) (reasons level_starts : List ℕ) (cs : List (List Lit)) (k : ℕ) → Reasoned tr reasons cs → DecisionsBegin tr reasons level_starts →
    k < length cs → FalseOn tr (get_or cs k []) → Conflicting cs (decided tr level_starts)
conflicting tr reasons level_starts cs k ok roots lk out t holds closed =
    let all : AllFalse t (get_or cs k []) = λ j d lj.
    let h = out j d lj in ap t (sym h.2) ∙ reached_all tr reasons level_starts cs ok roots h.0 h.1 t holds closed in
    inl (k, get_or cs k [], lk, read_itself cs k lk, all)

-- what is not below s is not among the literals below s
pub not_below : (tr : List Lit) (positions : List ℕ) (s p : ℕ) (m : Lit) → PlacesMatch tr positions → s ≤ length tr → p < length tr → s ≤ p →
    m.var ≡ (at tr p).var → among (take s tr) m ≡ false
not_below tr positions s p m ok ls lp le e =
    elim (cases_Bool (among (take s tr) m)) [
      | inl on ↦
          let h = among_take_where tr s m ls on in
          let lh : h.0 < length tr = omega (arith, h.1) in
          let v : (at tr h.0).var ≡ (at tr p).var = ap (λ (x : Lit). x.var) h.2 ∙ e in
          absurd (omega (arith, h.1, place_same tr positions h.0 p ok lh lp v))
      | inr off ↦ off
    ]

-- the literals below the start of a level hold the decisions below it
pub low_holds : (tr : List Lit) (level_starts : List ℕ) (k : ℕ) → k < length level_starts → StartsRise level_starts → StartsIn level_starts tr →
    Holds (among (take (get_or level_starts k 0) tr)) (take k (decided tr level_starts))
low_holds tr level_starts k lk up ins i d li =
    let lk' : k ≤ length (decided tr level_starts) = omega (arith, decided_length tr level_starts) in
    let ik : i < k = omega (arith, li, length-take-le k (decided tr level_starts) lk') in
    let ls : i < length level_starts = omega arith in
    let e : get_or (take k (decided tr level_starts)) i d ≡ at tr (get_or level_starts i 0) =
    get_or_default (take k (decided tr level_starts)) i d none_lit li ∙ get_or-take k (decided tr level_starts) i none_lit ik ∙ decided_at tr level_starts i ls in
    let s = get_or level_starts k 0 in
    let on : among (take s tr) (at tr (get_or level_starts i 0)) ≡ true =
    among_take_here tr s (get_or level_starts i 0) (at tr (get_or level_starts i 0)) (omega (arith, ins k lk)) (up i k ik lk) refl in
    ap (among (take s tr)) e ∙ on

pub unset_below : (tr : List Lit) (positions level_starts : List ℕ) (cs : List (List Lit)) (k p : ℕ) → PlacesMatch tr positions → StartsRise level_starts → StartsIn level_starts tr →
    k < length level_starts → AtRest cs (take (get_or level_starts k 0) tr) → get_or level_starts k 0 ≤ p → p < length tr → (m : Lit) → m.var ≡ (at tr p).var →
    Reaches cs (take k (decided tr level_starts)) m → ⊥
unset_below tr positions level_starts cs k p ok up ins lk rest le lp m e =
    let s = get_or level_starts k 0 in
    let ls : s ≤ length tr = omega arith in
    not_reached cs (take k (decided tr level_starts)) (among (take s tr)) m (low_holds tr level_starts k lk up ins) rest (not_below tr positions s p m ok ls lp le e)

pub decisions_open : (tr : List Lit) (positions level_starts : List ℕ) (cs : List (List Lit)) → PlacesMatch tr positions → StartsRise level_starts → StartsIn level_starts tr →
    ((i : ℕ) → i < length level_starts → AtRest cs (take (get_or level_starts i 0) tr)) → DecisionsOpen cs (decided tr level_starts)
decisions_open tr positions level_starts cs ok up ins rest i li =
    let lk : i < length level_starts = omega (arith, li, decided_length tr level_starts) in
    let s = get_or level_starts i 0 in
    let lp : s < length tr = ins i lk in
    let ls : s ≤ length tr = omega arith in
    let e : at (decided tr level_starts) i ≡ at tr s = decided_at tr level_starts i lk in
    let v : (at (decided tr level_starts) i).var ≡ (at tr s).var = ap (λ (x : Lit). x.var) e in (
      (
        unset_below tr positions level_starts cs i s ok up ins lk (rest i lk) (omega arith) lp (at (decided tr level_starts) i) v,
        unset_below tr positions level_starts cs i s ok up ins lk (rest i lk) (omega arith) lp (negate (at (decided tr level_starts) i)) v,
      ),
      not_conflicting cs (take i (decided tr level_starts)) (among (take s tr)) (low_holds tr level_starts i lk up ins) (rest i lk)
          (λ l a b. among_one_side tr positions s l ok ls a b),
    )

-- facts of each level
pub per_went : (Q : List Lit → Lit → Type 0) (old new : List Lit) (level_starts : List ℕ) → take (length old) new ≡ old → StartsIn level_starts old →
    PerLevel Q old level_starts → PerLevel Q new level_starts
per_went Q old new level_starts e ins h i li =
    let s = get_or level_starts i 0 in
    let ls : s < length old = ins i li in
    let a : at new s ≡ at old s = sym (get_or-take (length old) new s none_lit ls) ∙ ap (λ xs. at xs s) e in
    let b : take s new ≡ take s old = sym (take-take s (length old) new (omega arith)) ∙ ap (take s) e in
    let P : List Lit → Type 0 = λ x. Q x (at new s) in
    let R : Lit → Type 0 = λ x. Q (take s old) x in
    subst P (sym b) (subst R (sym a) (h i li))

pub per_decide : (Q : List Lit → Lit → Type 0) (tr : List Lit) (level_starts : List ℕ) (l : Lit) → StartsIn level_starts tr → Q tr l →
    PerLevel Q tr level_starts → PerLevel Q (tr ++ l ∷ []) (level_starts ++ length tr ∷ [])
per_decide Q tr level_starts l ins here h i li =
    elim (cases_lt i (length level_starts)) [
      | inl lt ↦
          let e : get_or (level_starts ++ length tr ∷ []) i 0 ≡ get_or level_starts i 0 = get_or_append_left level_starts (length tr ∷ []) 0 i lt in
          let pre : take (length tr) (tr ++ l ∷ []) ≡ tr = take-append-le (length tr) tr (l ∷ []) (omega arith) ∙ take_all (length tr) tr (omega arith) in
          let g = per_went Q tr (tr ++ l ∷ []) level_starts pre ins h i lt in
          let P : ℕ → Type 0 = λ s. Q (take s (tr ++ l ∷ [])) (at (tr ++ l ∷ []) s) in
          subst P (sym e) g
      | inr ge ↦
          let last : i ≡ length level_starts = omega (arith, li, length-append level_starts (length tr ∷ [])) in
          let e : get_or (level_starts ++ length tr ∷ []) i 0 ≡ length tr = rw last (get_or-append_seam level_starts (length tr) [] 0) in
          let pre : take (length tr) (tr ++ l ∷ []) ≡ tr = take-append-le (length tr) tr (l ∷ []) (omega arith) ∙ take_all (length tr) tr (omega arith) in
          let P : ℕ → Type 0 = λ s. Q (take s (tr ++ l ∷ [])) (at (tr ++ l ∷ []) s) in
          let R : List Lit → Type 0 = λ x. Q x (at (tr ++ l ∷ []) (length tr)) in
          let S : Lit → Type 0 = λ x. Q tr x in
          subst P (sym e) (subst R (sym pre) (subst S (sym (at_end tr l)) here))
    ]

pub per_back : (Q : List Lit → Lit → Type 0) (tr : List Lit) (level_starts : List ℕ) (k : ℕ) → k < length level_starts → StartsRise level_starts → StartsIn level_starts tr →
    PerLevel Q tr level_starts → PerLevel Q (take (get_or level_starts k 0) tr) (take k level_starts)
per_back Q tr level_starts k lk up ins h i li =
    let n = get_or level_starts k 0 in
    let lt : i < k = omega (arith, li, length-take-le k level_starts (omega arith)) in
    let ls : i < length level_starts = omega arith in
    let e : get_or (take k level_starts) i 0 ≡ get_or level_starts i 0 = get_or-take k level_starts i 0 lt in
    let s = get_or level_starts i 0 in
    let sn : s < n = up i k lt lk in
    let a : at (take n tr) s ≡ at tr s = at_take tr n s sn in
    let b : take s (take n tr) ≡ take s tr = take-take s n tr (omega arith) in
    let P : ℕ → Type 0 = λ x. Q (take x (take n tr)) (at (take n tr) x) in
    let R : List Lit → Type 0 = λ x. Q x (at (take n tr) s) in
    let S : Lit → Type 0 = λ x. Q (take s tr) x in
    subst P (sym e) (subst R (sym b) (subst S (sym a) (h i ls)))

pub per_map : (Q R : List Lit → Lit → Type 0) (tr : List Lit) (level_starts : List ℕ) → ((i : ℕ) → i < length level_starts →
    Q (take (get_or level_starts i 0) tr) (at tr (get_or level_starts i 0)) → R (take (get_or level_starts i 0) tr) (at tr (get_or level_starts i 0))) →
    PerLevel Q tr level_starts → PerLevel R tr level_starts
per_map Q R tr level_starts f h i li = f i li (h i li)
