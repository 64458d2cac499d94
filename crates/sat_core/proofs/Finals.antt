use Rattle.std.proofs.Common.{◌≡◌, ℕ, ◌<◌, ◌≤◌, ◌+◌, ◌-◌, ◌*◌, Bool, true, false, not, List, [], ◌∷◌, ◌++◌, length, take, get_or, refl, sym, subst, ap, ◌∙◌, inl, inr, ◌⊎◌, arith, length-append, append_assoc, append-nil, mul-le-mul_right, eq-eqb, eqb}
use Rattle.std.specs.List.{All, Contains}
use Rattle.std.proofs.Math.Seq.{get_or-append_seam, take-append_seam}
use Rattle.std.proofs.lemmas.Bool.{cases_Bool, cases_lt}
use Rattle.std.proofs.lemmas.List.{get_or_append_left, take-append-le, take_all, take_more, get_or_default, get_or_read_under}
use Rattle.std.proofs.lemmas.List.Elements.{All-contains}
use Rattle.clause_core.specs.declared.literal.Lit.{Lit}
use Rattle.clause_core.specs.Literals.{negate, none_lit, at, Within}
use Rattle.clause_core.specs.Propagation.{AllFalse}
use Rattle.sat_prop.specs.Trails.{Forced}
use Rattle.sat_core.specs.Positions.{Marked}
use Rattle.clause_core.specs.Values.{code, holds, unset, unset_one}
use Rattle.clause_core.specs.Propagation.{Reaches, Conflicting, DecisionsOpen}
use Rattle.sat_prop.specs.declared.trail.Trail.{Trail}
use Rattle.sat_prop.specs.Trails.{among, AtRest, FalseOn, Based, DecisionsBegin, reason_at}
use Rattle.sat_prop.proofs.Ways.{among_take_where, among_where, one_side, start_at, eqb_apart}
use Rattle.sat_prop.proofs.Sweeps.{reasoned_from}
use Rattle.sat_prop.specs.Moves.{Extends}
use Rattle.std.proofs.lemmas.List.Sums.{sum_by-le}
use Rattle.sat_core.specs.Searching.{decided, PerLevel, Level, LearnedFrom, GrowsByLearning, LearnSays, MarksFalse, Refutes, PaidFor}
use Rattle.sat_core.specs.Queries.{IsLearned, AssumptionsFirst}
use Rattle.sat_core.proofs.Levels.{decided_length, decided_at, reached, held_below, read_itself, per_back, per_decide, per_went}
use Rattle.sat_core.proofs.Learns.{contains_map}

-- a conflict with no decision
pub refuted_root : (t : Trail) (cs : List (List Lit)) (k : ℕ) → Based t.literals.items t.reasons.items cs → k < length cs → FalseOn t.literals.items (get_or cs k []) →
    length t.level_starts.items ≡ 0 → (core : List Lit) → Refutes cs core
refuted_root t cs k based lk out none core s closed holds =
    let tr = t.literals.items in
    let held = held_below tr t.reasons.items t.level_starts.items cs s (reasoned_from tr t.reasons.items cs based) t.roots closed (length tr) (omega arith)
    (λ i li ls. absurd (omega arith)) in
    let all : AllFalse s (get_or cs k []) = λ j d lj. let h = out j d lj in ap s (sym h.2) ∙ held h.0 h.1 in
    inl (k, get_or cs k [], lk, read_itself cs k lk, all)

-- an assumption that is false on the trail, when each mark is of a literal of the core
pub refuted_core : (literals : List Lit) (cs : List (List Lit)) (marks : List Bool) (a : Lit) (core : List Lit) → MarksFalse literals cs marks (a ∷ []) →
    ((q : ℕ) → q < length literals → Marked marks q → Contains core (at literals q)) → Contains core a → Refutes cs core
refuted_core literals cs marks a core false' has has_a t closed holds =
    let all : AllFalse t (a ∷ []) = false' t closed (λ q lq m. All-contains (λ d. t d ≡ true) core (at literals q) holds (has q lq m)) in
    inr (a, All-contains (λ d. t d ≡ true) core a holds has_a, all 0 none_lit (omega arith))

pub decision_decided : (literals : List Lit) (reasons level_starts : List ℕ) (p : ℕ) → DecisionsBegin literals reasons level_starts → p < length literals → reason_at literals reasons p ≡ 0 →
    Contains (decided literals level_starts) (at literals p)
decision_decided literals reasons level_starts p roots lp none =
    let h = start_at level_starts p (roots p lp none) in
    let has : Contains level_starts p = (h.0, h.1, get_or_default level_starts h.0 p 0 h.1 ∙ h.2) in
    contains_map (λ s. at literals s) level_starts p has

-- assumptions
pub assumptions_first : (t : Trail) (cs : List (List Lit)) (assumptions : List Lit) → Based t.literals.items t.reasons.items cs →
    PerLevel (Level cs assumptions) t.literals.items t.level_starts.items → AssumptionsFirst cs assumptions (decided t.literals.items t.level_starts.items)
assumptions_first t cs assumptions based levels i li =
    let tr = t.literals.items in
    let level_starts = t.level_starts.items in
    let ls : i < length level_starts = omega (arith, li, decided_length tr level_starts) in
    let s = get_or level_starts i 0 in
    let le : s ≤ length tr = omega (arith, t.in_trail i ls) in
    elim (levels i ls).1 [
      | inl h ↦ let P : Lit → Type 0 = Contains assumptions in inl (subst P (sym (decided_at tr level_starts i ls)) h)
      | inr all ↦ inr (λ j d lj.
          let h = among_take_where tr s (get_or assumptions j d) le (all j d lj) in
          let P : Lit → Type 0 = Reaches cs (take i (decided tr level_starts)) in
          subst P h.2 (reached tr t.reasons.items level_starts cs (reasoned_from tr t.reasons.items cs based) t.roots t.rising i ls s le (omega arith) h.0 h.1))
    ]

-- where an assumption is false, each decision is an assumption
pub decisions_assumed : (t : Trail) (cs : List (List Lit)) (assumptions : List Lit) (a : Lit) → PerLevel (Level cs assumptions) t.literals.items t.level_starts.items →
    Contains assumptions a → among t.literals.items (negate a) ≡ true → All (Contains assumptions) (decided t.literals.items t.level_starts.items)
decisions_assumed t cs assumptions a levels has off i d li =
    let tr = t.literals.items in
    let level_starts = t.level_starts.items in
    let ls : i < length level_starts = omega (arith, li, decided_length tr level_starts) in
    let s = get_or level_starts i 0 in
    let le : s ≤ length tr = omega (arith, t.in_trail i ls) in
    let e : get_or (decided tr level_starts) i d ≡ at tr s = get_or_default (decided tr level_starts) i d none_lit li ∙ decided_at tr level_starts i ls in
    elim (levels i ls).1 [
      | inl h ↦ let P : Lit → Type 0 = Contains assumptions in subst P (sym e) h
      | inr all ↦
          let on : among (take s tr) a ≡ true = All-contains (λ b. among (take s tr) b ≡ true) assumptions a all has in
          let x = among_take_where tr s a le on in
          let y = among_where tr (negate a) off in
          let lx : x.0 < length tr = omega (arith, x.1) in
          absurd (one_side tr t.positions.items a x.0 y.0 t.placed lx y.1 x.2 y.2)
    ]

pub level_after : (t : Trail) (cs cs' : List (List Lit)) (assumptions literals' : List Lit) (level_starts' : List ℕ) (n : ℕ) → n < length t.level_starts.items →
    literals' ≡ take (get_or t.level_starts.items n 0) t.literals.items → level_starts' ≡ take n t.level_starts.items →
    PerLevel (λ low _. AtRest cs' low) literals' level_starts' → PerLevel (Level cs assumptions) t.literals.items t.level_starts.items →
    PerLevel (Level cs' assumptions) literals' level_starts'
level_after t cs cs' assumptions literals' level_starts' n ln el es rest levels i li =
    let Q : List Lit → Lit → Type 0 = λ low l. Contains assumptions l ⊎ All (λ a. among low a ≡ true) assumptions in
    let old : PerLevel Q t.literals.items t.level_starts.items = λ j lj. (levels j lj).1 in
    let back = per_back Q t.literals.items t.level_starts.items n ln t.rising t.in_trail old in
    let P : List Lit → Type 0 = λ xs. PerLevel Q xs (take n t.level_starts.items) in
    let R : List ℕ → Type 0 = λ xs. PerLevel Q literals' xs in
    let new : PerLevel Q literals' level_starts' = subst R (sym es) (subst P (sym el) back) in
    (rest i li, new i li)

-- the decisions, as those before the last and the last
pub is_learned : (vars : ℕ) (assumptions : List Lit) (cs : List (List Lit)) (ds c : List Lit) → Within vars c → AssumptionsFirst cs assumptions ds →
    LearnedFrom cs ds c → IsLearned vars assumptions cs c
is_learned vars assumptions cs ds c within first f =
    let n = f.0 in
    let before = take n ds in
    let last = at ds n in
    let lt : n < length ds = omega (arith, f.1) in
    let all : take (n + 1) ds ≡ ds = take_all (n + 1) ds (omega (arith, f.1)) in
    let split : ds ≡ before ++ last ∷ [] = sym all ∙ take_more ds n none_lit lt in
    let A : List Lit → Type 0 = AssumptionsFirst cs assumptions in
    let D : List Lit → Type 0 = DecisionsOpen cs in
    let C : List Lit → Type 0 = Conflicting cs in
    let R : List Lit → Type 0 = λ xs. All (λ m. Reaches cs xs (negate m)) c in
    (within, (before, last, subst A split first, (subst D split f.2, subst C split f.3, f.4, subst R split f.5, f.6)))

pub paid_none : (tickets : List ℕ) (cs : List (List Lit)) → PaidFor tickets tickets cs cs
paid_none tickets cs = ([], sym (append-nil tickets), omega arith)

pub paid_more : (before mid after : List ℕ) (n : ℕ) (cs cs1 cs2 : List (List Lit)) (c : List Lit) → PaidFor before mid cs cs1 →
    after ≡ mid ++ n ∷ [] → cs2 ≡ cs1 ++ c ∷ [] → PaidFor before after cs cs2
paid_more before mid after n cs cs1 cs2 c paid drawn grown =
    let xs = paid.0 in
    let e : after ≡ before ++ (xs ++ n ∷ []) = drawn ∙ ap (λ ys. ys ++ n ∷ []) paid.1 ∙ append_assoc before xs (n ∷ []) in
    (xs ++ n ∷ [], e, omega (arith, paid.2, ap length grown, length-append cs1 (c ∷ []), length-append xs (n ∷ [])))

pub learnt_none : (vars : ℕ) (assumptions : List Lit) (cs : List (List Lit)) → GrowsByLearning vars assumptions cs cs
learnt_none vars assumptions cs = ([], sym (append-nil cs), λ k lk. absurd (omega (arith, lk)))

pub learnt_more : (vars : ℕ) (assumptions literals : List Lit) (level_starts : List ℕ) (old cs cs' : List (List Lit)) (literals' : List Lit) (level_starts' : List ℕ) →
    GrowsByLearning vars assumptions old cs → AssumptionsFirst cs assumptions (decided literals level_starts) → LearnSays vars cs literals level_starts cs' literals' level_starts' →
    GrowsByLearning vars assumptions old cs'
learnt_more vars assumptions literals level_starts old cs cs' literals' level_starts' h first said =
    let xs = h.0 in
    let c = said.0 in
    let grown : cs' ≡ old ++ (xs ++ c ∷ []) = said.1 ∙ ap (λ ys. ys ++ c ∷ []) h.1 ∙ append_assoc old xs (c ∷ []) in (
      xs ++ c ∷ [],
      grown,
      λ k lk.
          elim (cases_lt k (length xs)) [
            | inl lt ↦
                let e : get_or (xs ++ c ∷ []) k [] ≡ get_or xs k [] = get_or_append_left xs (c ∷ []) [] k lt in
                let f : take k (xs ++ c ∷ []) ≡ take k xs = take-append-le k xs (c ∷ []) (omega arith) in
                let P : List Lit → Type 0 = λ x. IsLearned vars assumptions (old ++ take k (xs ++ c ∷ [])) x in
                let Q : List (List Lit) → Type 0 = λ ys. IsLearned vars assumptions (old ++ ys) (get_or xs k []) in
                subst P (sym e) (subst Q (sym f) (h.2 k lt))
            | inr ge ↦
                let last : k ≡ length xs = omega (arith, lk, length-append xs (c ∷ [])) in
                let e : get_or (xs ++ c ∷ []) k [] ≡ c = rw last (get_or-append_seam xs c [] []) in
                let f : take k (xs ++ c ∷ []) ≡ xs = rw last (take-append_seam xs (c ∷ [])) in
                let P : List Lit → Type 0 = λ x. IsLearned vars assumptions (old ++ take k (xs ++ c ∷ [])) x in
                let Q : List (List Lit) → Type 0 = λ ys. IsLearned vars assumptions (old ++ ys) c in
                let R : List (List Lit) → Type 0 = λ ys. IsLearned vars assumptions ys c in
                let step : IsLearned vars assumptions cs c = is_learned vars assumptions cs (decided literals level_starts) c said.2 first said.3 in
                subst P (sym e) (subst Q (sym f) (subst R h.1 step))
          ],
    )

-- values and the literals of the trail
pub value_set_by : (v : List ℕ) (literals : List Lit) (l : Lit) → ((m : Lit) → among literals m ≡ holds v m) → (get_or v l.var 0 ≡ 1) ⊎ (get_or v l.var 0 ≡ 2) →
    (b : Bool) → l.positive ≡ b → among literals l ≡ true ⊎ among literals (negate l) ≡ true
value_set_by v literals l ok (inl one) true e = inl (ok l ∙ eq-eqb _ _ (rw (one, e) refl))
value_set_by v literals l ok (inl one) false e = inr (ok (negate l) ∙ eq-eqb _ _ (rw (one, e) refl))
value_set_by v literals l ok (inr two) true e = inr (ok (negate l) ∙ eq-eqb _ _ (rw (two, e) refl))
value_set_by v literals l ok (inr two) false e = inl (ok l ∙ eq-eqb _ _ (rw (two, e) refl))

pub value_set : (t : Trail) (l : Lit) → (get_or t.values.items l.var 0 ≡ 1) ⊎ (get_or t.values.items l.var 0 ≡ 2) →
    among t.literals.items l ≡ true ⊎ among t.literals.items (negate l) ≡ true
value_set t l h = value_set_by t.values.items t.literals.items l t.values_ok h l.positive refl

pub free_by : (v : List ℕ) (n : ℕ) (x : Bool) → (get_or v n 0 ≡ 1 → ⊥) → (get_or v n 0 ≡ 2 → ⊥) → eqb (get_or v n 0) (code x) ≡ false
free_by v n true a b = eqb_apart _ _ a
free_by v n false a b = eqb_apart _ _ b

pub value_free : (v : List ℕ) (literals : List Lit) (l : Lit) → ((m : Lit) → among literals m ≡ holds v m) → (get_or v l.var 0 ≡ 1 → ⊥) → (get_or v l.var 0 ≡ 2 → ⊥) →
    (among literals l ≡ false) × (among literals (negate l) ≡ false)
value_free v literals l ok a b = (ok l ∙ free_by v l.var l.positive a b, ok (negate l) ∙ free_by v l.var (not l.positive) a b)

pub levels_decide : (t u : Trail) (cs cs' : List (List Lit)) (assumptions : List Lit) (l : Lit) → PerLevel (Level cs assumptions) t.literals.items t.level_starts.items →
    AtRest cs t.literals.items → Contains assumptions l ⊎ All (λ a. among t.literals.items a ≡ true) assumptions →
    u.literals.items ≡ t.literals.items ++ l ∷ [] → u.level_starts.items ≡ t.level_starts.items ++ length t.literals.items ∷ [] → cs' ≡ cs →
    PerLevel (Level cs' assumptions) u.literals.items u.level_starts.items
levels_decide t u cs cs' assumptions l levels rest first el es ec =
    let h = per_decide (Level cs assumptions) t.literals.items t.level_starts.items l t.in_trail (rest, first) levels in
    let P : List Lit → Type 0 = λ xs. PerLevel (Level cs assumptions) xs (t.level_starts.items ++ length t.literals.items ∷ []) in
    let Q : List ℕ → Type 0 = λ xs. PerLevel (Level cs assumptions) u.literals.items xs in
    let R : List (List Lit) → Type 0 = λ xs. PerLevel (Level xs assumptions) u.literals.items u.level_starts.items in
    subst R (sym ec) (subst Q (sym es) (subst P (sym el) h))

pub levels_went : (t u : Trail) (cs cs' : List (List Lit)) (assumptions : List Lit) → PerLevel (Level cs assumptions) t.literals.items t.level_starts.items →
    Extends t u → cs' ≡ cs → PerLevel (Level cs' assumptions) u.literals.items u.level_starts.items
levels_went t u cs cs' assumptions levels w ec =
    let h = per_went (Level cs assumptions) t.literals.items u.literals.items t.level_starts.items w.prefix t.in_trail levels in
    let Q : List ℕ → Type 0 = λ xs. PerLevel (Level cs assumptions) u.literals.items xs in
    let R : List (List Lit) → Type 0 = λ xs. PerLevel (Level xs assumptions) u.literals.items u.level_starts.items in
    subst R (sym ec) (subst Q (sym w.level_starts) h)

pub unset_one_le : (n : ℕ) → unset_one n ≤ 1
unset_one_le n =
    elim (cases_Bool (eqb n 1)) [
      | inl on ↦ rw on (omega arith)
      | inr off ↦ elim (cases_Bool (eqb n 2)) [
        | inl two ↦ rw (off, two) (omega arith)
        | inr none ↦ rw (off, none) (omega arith)
      ]
    ]

pub unset_le : (v : List ℕ) → unset v ≤ length v
unset_le v = omega (arith, sum_by-le unset_one 1 v (λ k d lt. unset_one_le (get_or v k d)))

pub measure_less : (b' b v u' u : ℕ) → b' + 1 ≤ b → u' ≤ v → b' * (v + 1) + u' < b * (v + 1) + u
measure_less b' b v u' u lt le =
    let h : (b' + 1) * (v + 1) ≤ b * (v + 1) = mul-le-mul_right (v + 1) lt in
    let e : (b' + 1) * (v + 1) ≡ b' * (v + 1) + (v + 1) = grind arith in
    omega (arith, h, e, le)

pub reason_plain : (t : Trail) (cs : List (List Lit)) (w p : ℕ) → Based t.literals.items t.reasons.items cs → w ≡ reason_at t.literals.items t.reasons.items p →
    p < length t.literals.items → (w ≡ 0 → ⊥) → (w - 1 < length cs) × Forced t.literals.items p (get_or cs (w - 1) [])
reason_plain t cs w p based e lp ne =
    let pos : 0 < reason_at t.literals.items t.reasons.items p = omega (arith, ne, e) in
    let h = reasoned_from t.literals.items t.reasons.items cs based p lp pos in
    let P : ℕ → Type 0 = λ n. Forced t.literals.items p (get_or cs (n - 1) []) in
    (omega (arith, h.0, e, pos), subst P (sym e) h.1)

pub lit_read : (x t : Trail) (l : Lit) (p : ℕ) → x ≡ t → l ≡ get_or x.literals.items p l → p < length t.literals.items → l ≡ at t.literals.items p
lit_read x t l p e r lp =
    let P : Trail → Type 0 = λ w. p < length w.literals.items in
    let lt : p < length x.literals.items = subst P (sym e) lp in
    get_or_read_under x.literals.items p (length x.literals.items) l none_lit r lt refl ∙ ap (λ (w : Trail). at w.literals.items p) e
