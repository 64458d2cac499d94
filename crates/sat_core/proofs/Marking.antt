use Rattle.std.proofs.Common.{◌≡◌, ℕ, ◌<◌, ◌≤◌, ◌+◌, ◌*◌, Bool, true, false, List, [], ◌∷◌, ◌++◌, length, take, drop, get_or, refl, sym, subst, ap, ◌∙◌, inl, inr, ◌⊎◌, arith, set, sum_by, get_or-set_other, get_or-set_same}
use Rattle.std.specs.List.{All}
use Rattle.std.proofs.lemmas.Bool.{cases_Bool, cases_eq, cases_lt, both_ways}
use Rattle.std.proofs.lemmas.List.{get_or_default, get_or-drop}
use Rattle.std.proofs.lemmas.List.Sums.{sum_by-le}
use Rattle.std.proofs.lemmas.List.Elements.{All-push, All-weaker, Contains-push, Contains-append_left}
use Rattle.clause_core.specs.declared.literal.Lit.{Lit}
use Rattle.clause_core.specs.Literals.{negate, none_lit, at}
use Rattle.clause_core.specs.Propagation.{AllFalse}
use Rattle.sat_core.specs.Positions.{Marked, MarksAdded, level_marks, one}
use Rattle.sat_prop.specs.Trails.{PlacesMatch, Forced}
use Rattle.sat_core.proofs.Marked.{forced_in, marked_set}
use Rattle.sat_core.proofs.Counts.{level_set, level_has}
use Rattle.sat_prop.specs.Trails.{among, is_literal, FalseOn, DecisionsBegin, StartsRise, reason_at}
use Rattle.sat_prop.proofs.Ways.{among_take_here, lit_is_same, lit_is_itself, start_at}
use Rattle.sat_core.specs.Searching.{MarksFalse, LowListed, OnlyNew, NoneFrom}

pub not_marked_false : {A : Type 0} → false ≡ true → A
not_marked_false e = absurd (both_ways false refl e)

pub unmarked : (v : List Bool) (p q : ℕ) → p < length v → Marked (set v p false) q → (q ≡ p → ⊥) × Marked v q
unmarked v p q lt m =
    elim (cases_eq q p) [
      | inl same ↦
          let P : ℕ → Type 0 = Marked (set v p false) in
          let e : get_or (set v p false) p false ≡ false = get_or-set_same v p false false lt in
          absurd (both_ways _ e (subst P same m))
      | inr ne ↦ (ne, rw get_or-set_other at m)
    ]

pub low_mark_low : (v : List Bool) (floor q : ℕ) (low : List ℕ) → q < floor → q < length v → LowListed v floor low → LowListed (set v q true) floor (low ++ q ∷ [])
low_mark_low v floor q low lf lv h = (
  λ k lk m.
      elim (cases_eq k q) [
        | inl same ↦ rw same (Contains-push low q)
        | inr ne ↦ Contains-append_left low (q ∷ []) k (h.0 k lk (rw get_or-set_other at m))
      ],
  All-push (λ k. (k < floor) × Marked (set v q true) k) low q
      (All-weaker (λ k. (k < floor) × Marked v k) (λ k. (k < floor) × Marked (set v q true) k) (λ k u. (u.0, marked_set v q k lv u.1)) low h.1)
      (lf, get_or-set_same v q true false lv),
)

pub low_mark_high : (v : List Bool) (floor q : ℕ) (low : List ℕ) → floor ≤ q → q < length v → LowListed v floor low → LowListed (set v q true) floor low
low_mark_high v floor q low lf lv h = (
  λ k lk m. let ne : k ≡ q → ⊥ = λ e. omega arith in h.0 k lk (rw get_or-set_other at m),
  All-weaker (λ k. (k < floor) × Marked v k) (λ k. (k < floor) × Marked (set v q true) k) (λ k u. (u.0, marked_set v q k lv u.1)) low h.1,
)

pub low_unmark : (v : List Bool) (floor q : ℕ) (low : List ℕ) → floor ≤ q → q < length v → LowListed v floor low → LowListed (set v q false) floor low
low_unmark v floor q low lf lv h = (
  λ k lk m. h.0 k lk (unmarked v q k lv m).1,
  All-weaker (λ k. (k < floor) × Marked v k) (λ k. (k < floor) × Marked (set v q false) k)
      (λ k u. let lk : k < floor = u.0 in let ne : k ≡ q → ⊥ = λ e. omega arith in (lk, rw get_or-set_other u.1)) low h.1,
)

pub low_none : (v : List Bool) (floor : ℕ) → ((q : ℕ) → Marked v q → ⊥) → LowListed v floor []
low_none v floor none = (λ k lk m. absurd (none k m), λ k d lt. absurd (omega (arith, lt)))

pub only_mark_new : (positions : List ℕ) (c : List Lit) (i skip q : ℕ) (old v : List Bool) → get_or positions (at c i).var 0 ≡ q → (q ≡ skip → ⊥) →
    OnlyNew positions c i skip old v → OnlyNew positions c (i + 1) skip old (set v q true)
only_mark_new positions c i skip q old v e ne h k m =
    elim (cases_eq k q) [
      | inl same ↦ inr (i, omega arith, e ∙ sym same, λ f. ne (sym same ∙ f))
      | inr other ↦
          let m' : Marked v k = rw get_or-set_other at m in
          elim (h k m') [
            | inl o ↦ inl o
            | inr u ↦ inr (u.0, omega (arith, u.1), u.2, u.3)
          ]
    ]

pub only_mark_kept : (positions : List ℕ) (c : List Lit) (i skip : ℕ) (old v : List Bool) →
    OnlyNew positions c i skip old v → OnlyNew positions c (i + 1) skip old v
only_mark_kept positions c i skip old v h k m =
    elim (h k m) [
      | inl o ↦ inl o
      | inr u ↦ inr (u.0, omega (arith, u.1), u.2, u.3)
    ]

pub only_mark_none : (positions : List ℕ) (c : List Lit) (skip : ℕ) (v : List Bool) → OnlyNew positions c 0 skip v v
only_mark_none positions c skip v k m = inl m

-- marks and what they make false
pub start_false : (trail : List Lit) (positions : List ℕ) (cs : List (List Lit)) (c : List Lit) (old new : List Bool) →
    PlacesMatch trail positions → FalseOn trail c → MarksAdded positions c (length trail) old new → MarksFalse trail cs new c
start_false trail positions cs c old new ok out added t closed held j d lt =
    let m = get_or c j d in
    let h = out j d lt in
    let here : get_or positions m.var 0 ≡ h.0 = ap (λ (l : Lit). get_or positions l.var 0) (sym h.2) ∙ ok h.0 h.1 in
    let other : get_or positions m.var 0 ≡ length trail → ⊥ = λ e. omega (arith, h.1, here, e) in
    let P : ℕ → Type 0 = Marked new in
    let marked : Marked new h.0 = subst P here (added.1 j d lt other) in
    ap t (sym h.2) ∙ held h.0 h.1 marked

pub resolve_false : (trail : List Lit) (positions : List ℕ) (cs : List (List Lit)) (c : List Lit) (p k : ℕ) (old new : List Bool) →
    p < length trail → k < length cs → PlacesMatch trail positions → Forced trail p (get_or cs k []) →
    MarksFalse trail cs old c → MarksAdded positions (get_or cs k []) p (set old p false) new → MarksFalse trail cs new c
resolve_false trail positions cs c p k old new lp lk ok forced before added t closed held =
    before t closed (λ q lq marked.
    elim (cases_eq q p) [
      | inl same ↦ rw same (forced_in trail positions cs t p k (set old p false) new lp lk ok forced added closed held)
      | inr ne ↦ held q lq (added.0 q (rw get_or-set_other marked))
    ])

pub high_start : (trail : List Lit) (positions : List ℕ) (c : List Lit) (old new : List Bool) → PlacesMatch trail positions → FalseOn trail c →
    ((q : ℕ) → Marked old q → ⊥) → OnlyNew positions c (length c) (length trail) old new → NoneFrom new (length trail)
high_start trail positions c old new ok out none only q le m =
    elim (only q m) [
      | inl o ↦ none q o
      | inr u ↦
          let h = out u.0 none_lit u.1 in
          let here : get_or positions (at c u.0).var 0 ≡ h.0 = ap (λ (l : Lit). get_or positions l.var 0) (sym h.2) ∙ ok h.0 h.1 in
          omega (arith, h.1, here, u.2)
    ]

pub high_same : (trail : List Lit) (positions : List ℕ) (c : List Lit) (p : ℕ) (old new : List Bool) → p < length trail → p < length old →
    PlacesMatch trail positions → Forced trail p c → OnlyNew positions c (length c) p (set old p false) new →
    (q : ℕ) → p ≤ q → Marked new q → (q ≡ p → ⊥) × Marked old q
high_same trail positions c p old new lp lo ok forced only q le m =
    elim (only q m) [
      | inl o ↦ unmarked old p q lo o
      | inr u ↦
          let ne : at c u.0 ≡ at trail p → ⊥ = λ e.
          let f : get_or positions (at c u.0).var 0 ≡ p = ap (λ (l : Lit). get_or positions l.var 0) e ∙ ok p lp in
          u.3 (sym u.2 ∙ f) in
          let h = forced.1 u.0 none_lit u.1 ne in
          let lq : h.0 < length trail = omega (arith, h.1) in
          let here : get_or positions (at c u.0).var 0 ≡ h.0 = ap (λ (l : Lit). get_or positions l.var 0) (sym h.2) ∙ ok h.0 lq in
          absurd (omega (arith, h.1, here, u.2))
    ]

pub high_step : (trail : List Lit) (positions : List ℕ) (c : List Lit) (p : ℕ) (old new : List Bool) → p < length trail → p < length old →
    PlacesMatch trail positions → Forced trail p c →
    NoneFrom old (p + 1) → OnlyNew positions c (length c) p (set old p false) new → NoneFrom new p
high_step trail positions c p old new lp lo ok forced high only q le m =
    elim (only q m) [
      | inl o ↦ let u = unmarked old p q lo o in high q (let ne : q ≡ p → ⊥ = u.0 in omega arith) u.1
      | inr u ↦
          let ne : at c u.0 ≡ at trail p → ⊥ = λ e.
          let f : get_or positions (at c u.0).var 0 ≡ p = ap (λ (l : Lit). get_or positions l.var 0) e ∙ ok p lp in
          u.3 (sym u.2 ∙ f) in
          let h = forced.1 u.0 none_lit u.1 ne in
          let lq : h.0 < length trail = omega (arith, h.1) in
          let here : get_or positions (at c u.0).var 0 ≡ h.0 = ap (λ (l : Lit). get_or positions l.var 0) (sym h.2) ∙ ok h.0 lq in
          omega (arith, h.1, here, u.2)
    ]

pub high_skip : (v : List Bool) (p : ℕ) → NoneFrom v (p + 1) → get_or v p false ≡ false → NoneFrom v p
high_skip v p high off q le m =
    elim (cases_eq q p) [
      | inl same ↦ let P : ℕ → Type 0 = Marked v in both_ways _ off (subst P same m)
      | inr ne ↦ high q (omega arith) m
    ]

pub level_zero : (marks : List Bool) (floor : ℕ) → NoneFrom marks floor → level_marks marks floor ≡ 0
level_zero marks floor none =
    let zero' : sum_by one (drop floor marks) ≤ length (drop floor marks) * 0 =
    sum_by-le one 0 (drop floor marks) (λ k d lt.
    elim (cases_Bool (get_or (drop floor marks) k d)) [
      | inl on ↦
          let e : get_or (drop floor marks) k false ≡ true = get_or_default (drop floor marks) k false d lt ∙ on in
          absurd (none (floor + k) (omega arith) (rw (← get_or-drop) e))
      | inr off ↦ rw off (omega arith)
    ]) in
    omega (arith, zero')

-- a conflict has a literal of the last level
pub open_start : (trail : List Lit) (positions : List ℕ) (c : List Lit) (floor : ℕ) (old new : List Bool) → PlacesMatch trail positions → FalseOn trail c →
    floor ≤ length trail → length new ≡ length trail →
    MarksAdded positions c (length trail) old new → (AllFalse (among (take floor trail)) c → ⊥) → 0 < level_marks new floor
open_start trail positions c floor old new ok out lf ln added nope =
    elim (cases_lt 0 (level_marks new floor)) [
      | inl pos ↦ pos
      | inr none ↦ absurd (nope (λ j d lt.
          let m = get_or c j d in
          let h = out j d lt in
          let here : get_or positions m.var 0 ≡ h.0 = ap (λ (l : Lit). get_or positions l.var 0) (sym h.2) ∙ ok h.0 h.1 in
          let other : get_or positions m.var 0 ≡ length trail → ⊥ = λ e. omega (arith, h.1, here, e) in
          let P : ℕ → Type 0 = Marked new in
          let marked : Marked new h.0 = subst P here (added.1 j d lt other) in
          elim (cases_lt h.0 floor) [
            | inl l ↦ among_take_here trail floor h.0 (negate m) lf l h.2
            | inr g ↦ absurd (omega (arith, level_has new floor h.0 g (omega (arith, h.1, ln)) marked, none))
          ]))
    ]

-- a position of the last level with another marked one below it is no decision
pub not_decision : (trail : List Lit) (reasons level_starts : List ℕ) (floor p i : ℕ) (marks : List Bool) → DecisionsBegin trail reasons level_starts → StartsRise level_starts →
    length level_starts ≡ i + 1 → floor ≡ get_or level_starts i 0 → floor ≤ p → p < length trail → p < length marks → Marked marks p → NoneFrom marks (p + 1) →
    (level_marks marks floor ≡ 1 → ⊥) → 0 < reason_at trail reasons p
not_decision trail reasons level_starts floor p i marks roots up ls lf le lp lm m high two =
    elim (cases_eq (reason_at trail reasons p) 0) [
      | inr some ↦ omega arith
      | inl none ↦
          let h = start_at level_starts p (roots p lp none) in
          let low : p ≤ floor = elim (cases_lt h.0 i) [
            | inl l ↦ omega (arith, up h.0 i l (omega arith), h.2)
            | inr g ↦ let same : h.0 ≡ i = omega (arith, h.1) in
                let e : get_or level_starts h.0 0 ≡ get_or level_starts i 0 = rw same refl in omega (arith, e, h.2)
          ] in
          let w = set marks p false in
          let zero' : level_marks w floor ≡ 0 = level_zero w floor (λ q lq mq.
          let u = unmarked marks p q lm mq in
          let ne : q ≡ p → ⊥ = u.0 in high q (omega arith) u.1) in
          let e : level_marks w floor + one (get_or marks p false) ≡ level_marks marks floor + 0 = level_set marks floor p false le lm in
          let f : one (get_or marks p false) ≡ 1 = ap one m in
          absurd (two (omega (arith, e, f, zero')))
    ]

pub placed_start : (trail : List Lit) (positions : List ℕ) (c : List Lit) (n vars : ℕ) → PlacesMatch trail positions → All (λ l. l.var < vars) trail → FalseOn trail c →
    n ≡ length trail → length positions ≡ vars →
    All (λ m. (m.var < length positions) × ((get_or positions m.var 0 < n) ⊎ (get_or positions m.var 0 ≡ length trail))) c
placed_start trail positions c n vars ok within out ln lp j d lt =
    let m = get_or c j d in
    let h = out j d lt in
    let here : get_or positions m.var 0 ≡ h.0 = ap (λ (l : Lit). get_or positions l.var 0) (sym h.2) ∙ ok h.0 h.1 in
    let v : (at trail h.0).var ≡ m.var = ap (λ (l : Lit). l.var) h.2 in
    (omega (arith, within h.0 none_lit h.1, v), inl (omega (arith, here, h.1)))

pub placed_reason : (trail : List Lit) (positions : List ℕ) (c : List Lit) (p n vars : ℕ) → PlacesMatch trail positions → All (λ l. l.var < vars) trail → p < length trail →
    Forced trail p c → n ≡ length trail → length positions ≡ vars →
    All (λ m. (m.var < length positions) × ((get_or positions m.var 0 < n) ⊎ (get_or positions m.var 0 ≡ p))) c
placed_reason trail positions c p n vars ok within lp forced ln lpl j d lt =
    let m = get_or c j d in
    elim (cases_Bool (is_literal m (at trail p))) [
      | inl on ↦
          let same : m ≡ at trail p = lit_is_same m (at trail p) on in
          let v : m.var ≡ (at trail p).var = ap (λ (l : Lit). l.var) same in
          let here : get_or positions m.var 0 ≡ p = ap (λ (l : Lit). get_or positions l.var 0) same ∙ ok p lp in
          (omega (arith, within p none_lit lp, v), inr here)
      | inr off ↦
          let ne : m ≡ at trail p → ⊥ = λ e. both_ways _ off (rw e (lit_is_itself (at trail p))) in
          let h = forced.1 j d lt ne in
          let lq : h.0 < length trail = omega (arith, h.1) in
          let here : get_or positions m.var 0 ≡ h.0 = ap (λ (l : Lit). get_or positions l.var 0) (sym h.2) ∙ ok h.0 lq in
          let v : (at trail h.0).var ≡ m.var = ap (λ (l : Lit). l.var) h.2 in
          (omega (arith, within h.0 none_lit lq, v), inl (omega (arith, here, h.1)))
    ]
