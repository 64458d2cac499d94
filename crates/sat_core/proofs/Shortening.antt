-- Literals of a learned clause that the others imply.
use Rattle.std.proofs.Common.{◌≡◌, ℕ, ◌<◌, ◌≤◌, ◌-◌, Bool, true, List, [], length, get_or, zero, suc, refl, sym, subst, ap, ◌∙◌, inl, inr, ◌⊎◌, arith, set, get_or-set_other}
use Rattle.std.specs.List.{All, Contains}
use Rattle.std.specs.Prelude.{IsPermutation}
use Rattle.std.proofs.lemmas.List.Sorted.{Contains-permutation, All-permutation}
use Rattle.std.proofs.lemmas.Bool.{cases_eq, cases_lt}
use Rattle.std.proofs.lemmas.List.{get_or_read_under}
use Rattle.std.proofs.lemmas.List.Elements.{All-contains}
use Rattle.clause_core.specs.declared.literal.Lit.{Lit}
use Rattle.clause_core.specs.Literals.{negate, at, Within}
use Rattle.clause_core.specs.Propagation.{Closed}
use Rattle.sat_prop.specs.declared.trail.Trail.{Trail}
use Rattle.sat_prop.specs.Trails.{Based, Forced, reason_at}
use Rattle.sat_prop.proofs.Sweeps.{reasoned_from}
use Rattle.sat_core.specs.Positions.{Marked, OnlyMark}
use Rattle.sat_core.specs.Searching.{Implied, LowListed, MarksImplied, Recovers}
use Rattle.sat_core.proofs.Finals.{reason_plain}
use Rattle.sat_core.proofs.Levels.{held_below}
use Rattle.sat_core.proofs.Marked.{marked_set}

-- another literal of the clause that forced the literal at q stands before q, negated
pub before : (t : Trail) (q j : ℕ) (d : Lit) (xs : List Lit) → q < length t.literals.items → Forced t.literals.items q xs → j < length xs →
    (get_or t.positions.items (get_or xs j d).var 0 ≡ q → ⊥) →
    (get_or t.positions.items (get_or xs j d).var 0 < q) × (at t.literals.items (get_or t.positions.items (get_or xs j d).var 0) ≡ negate (get_or xs j d))
before t q j d xs lq forced lj ne =
    let m = get_or xs j d in
    let apart : m ≡ at t.literals.items q → ⊥ = λ e. ne (ap (λ (l : Lit). get_or t.positions.items l.var 0) e ∙ t.placed q lq) in
    let h = forced.1 j d lj apart in
    let lh : h.0 < length t.literals.items = omega (arith, h.1) in
    let here : get_or t.positions.items m.var 0 ≡ h.0 = ap (λ (l : Lit). get_or t.positions.items l.var 0) (sym h.2) ∙ t.placed h.0 lh in
    (omega (arith, here, h.1), ap (at t.literals.items) here ∙ h.2)

-- what is read at a literal of the reason of the literal at q
pub reason_step : (x t : Trail) (cs : List (List Lit)) (w q j r : ℕ) (d : Lit) (xs : List Lit) → x ≡ t → Based t.literals.items t.reasons.items cs →
    All (Within (length t.values.items)) cs → w ≡ reason_at t.literals.items t.reasons.items q → (w ≡ 0 → ⊥) → q < length t.literals.items →
    xs ≡ get_or cs (w - 1) [] → j < length xs → r ≡ get_or x.positions.items (get_or xs j d).var r →
    (r ≡ get_or x.positions.items (get_or xs j d).var 0) × ((r ≡ q → ⊥) → r < q)
reason_step x t cs w q j r d xs same based within ew nw lq ex lj er =
    let h = reason_plain t cs w q based ew lq nw in
    let F : List Lit → Type 0 = Forced t.literals.items q in
    let forced : F xs = subst F (sym ex) h.1 in
    let W : List Lit → Type 0 = Within (length t.values.items) in
    let in_range : W xs = subst W (sym ex) (within (w - 1) [] h.0) in
    let m = get_or xs j d in
    let lx : length x.positions.items ≡ length t.positions.items = ap (λ (y : Trail). length y.positions.items) same in
    let lm : m.var < length x.positions.items = omega (arith, in_range j d lj, t.places_len, lx) in
    let read : r ≡ get_or x.positions.items m.var 0 = get_or_read_under x.positions.items m.var (length x.positions.items) r 0 er lm refl in
    let read' : r ≡ get_or t.positions.items m.var 0 = read ∙ ap (λ (y : Trail). get_or y.positions.items m.var 0) same in
    (read, λ ne. let b = before t q j d xs lq forced lj (λ e. ne (read' ∙ e)) in omega (arith, b.0, read'))

pub implied_more : (t : Trail) (cs : List (List Lit)) (first q : ℕ) (old new : List Bool) → ((r : ℕ) → Marked old r → Marked new r) →
    Implied t cs old first q → Implied t cs new first q
implied_more t cs first q old new kept (inl low) = inl low
implied_more t cs first q old new kept (inr h) = inr (h.0, λ j d lj ne. kept _ (h.1 j d lj ne))

pub marks_none : (t : Trail) (cs : List (List Lit)) (first : ℕ) (v : List Bool) → MarksImplied t cs first v v
marks_none t cs first v = (λ r m. m, λ r m. inl m)

pub marks_on : (t : Trail) (cs : List (List Lit)) (first : ℕ) (a b c : List Bool) → MarksImplied t cs first a b → MarksImplied t cs first b c → MarksImplied t cs first a c
marks_on t cs first a b c f g = (
  λ r m. g.0 r (f.0 r m),
  λ r m. elim (g.1 r m) [
    | inl old ↦ elim (f.1 r old) [
      | inl older ↦ inl older
      | inr i ↦ inr (implied_more t cs first r b c g.0 i)
    ]
    | inr i ↦ inr i
  ],
)

pub marks_set : (t : Trail) (cs : List (List Lit)) (first r : ℕ) (v : List Bool) → r < length v → Implied t cs v first r → MarksImplied t cs first v (set v r true)
marks_set t cs first r v lt here =
    let w = set v r true in
    let kept : (k : ℕ) → Marked v k → Marked w k = λ k m. marked_set v r k lt m in (
      kept,
      λ k m. elim (cases_eq k r) [
        | inl same ↦
            let P : ℕ → Type 0 = Implied t cs w first in
            inr (subst P (sym same) (implied_more t cs first r v w kept here))
        | inr ne ↦ inl (rw get_or-set_other at m)
      ],
    )

-- what stands before all decisions, each closed set holds
pub first_held : (t : Trail) (cs : List (List Lit)) (s : Lit → Bool) (first : ℕ) → Based t.literals.items t.reasons.items cs → Closed s cs →
    0 < length t.level_starts.items → first ≡ get_or t.level_starts.items 0 0 → (q : ℕ) → q < first → s (at t.literals.items q) ≡ true
first_held t cs s first based closed some ef q lq =
    let le : first ≤ length t.literals.items = omega (arith, ef, t.in_trail 0 some) in
    held_below t.literals.items t.reasons.items t.level_starts.items cs s (reasoned_from t.literals.items t.reasons.items cs based) t.roots closed first le
    (λ i li ls.
    elim (cases_eq i 0) [
      | inl same ↦ let e : get_or t.level_starts.items i 0 ≡ get_or t.level_starts.items 0 0 = rw same refl in absurd (omega (arith, e, ef, ls))
      | inr ne ↦ absurd (omega (arith, t.rising 0 i (omega arith) li, ef, ls))
    ])
    q lq

-- a closed set that holds the literal at p and those at the kept places holds all that are marked
pub implied_held : (t : Trail) (cs : List (List Lit)) (s : Lit → Bool) (marks final : List Bool) (first floor p : ℕ) (low kept : List ℕ) →
    Based t.literals.items t.reasons.items cs → Closed s cs → ((q : ℕ) → q < first → s (at t.literals.items q) ≡ true) →
    length marks ≡ length t.literals.items → OnlyMark marks floor p → LowListed marks floor low →
    ((r : ℕ) → Marked final r → Marked marks r ⊎ Implied t cs final first r) →
    All (λ q. Contains kept q ⊎ Implied t cs final first q) low →
    s (at t.literals.items p) ≡ true → All (λ q. s (at t.literals.items q) ≡ true) kept →
    (n : ℕ) → n ≤ length t.literals.items → (q : ℕ) → q < n → Marked marks q ⊎ Implied t cs final first q → s (at t.literals.items q) ≡ true
implied_held t cs s marks final first floor p low kept based closed start len only lows new left hp held zero le q lq m = absurd (omega (arith, lq))
implied_held t cs s marks final first floor p low kept based closed start len only lows new left hp held (suc n) le q lq m =
    let tr = t.literals.items in
    let below : (r : ℕ) → r < n → Marked marks r ⊎ Implied t cs final first r → s (at tr r) ≡ true =
    implied_held t cs s marks final first floor p low kept based closed start len only lows new left hp held n (omega arith) in
    let ln : n < length tr = omega arith in
    let S : ℕ → Type 0 = λ r. s (at tr r) ≡ true in
    let by_reason : Implied t cs final first n → s (at tr n) ≡ true = λ i.
    elim i [
      | inl low' ↦ start n low'
      | inr h ↦
          let r = reasoned_from tr t.reasons.items cs based n ln h.0 in
          closed (reason_at tr t.reasons.items n - 1) [] (omega (arith, r.0, h.0)) (at tr n) (
            r.1.0,
            λ j d lj ne.
                let xs = get_or cs (reason_at tr t.reasons.items n - 1) [] in
                let u = r.1.1 j d lj ne in
                let lu : u.0 < length tr = omega (arith, u.1) in
                let here : get_or t.positions.items (get_or xs j d).var 0 ≡ u.0 = ap (λ (l : Lit). get_or t.positions.items l.var 0) (sym u.2) ∙ t.placed u.0 lu in
                let other : get_or t.positions.items (get_or xs j d).var 0 ≡ n → ⊥ = λ e. omega (arith, u.1, here, e) in
                let P : ℕ → Type 0 = Marked final in
                let marked : P u.0 = subst P here (h.1 j d lj other) in
                ap s (sym u.2) ∙ below u.0 u.1 (new u.0 marked),
          )
    ] in
    elim (cases_lt q n) [
      | inl l ↦ below q l m
      | inr g ↦
          let same : q ≡ n = omega arith in
          let M : ℕ → Type 0 = λ r. Marked marks r ⊎ Implied t cs final first r in
          let mn : M n = subst M same m in
          let here : S n = elim mn [
            | inl marked ↦ elim (cases_lt n floor) [
              | inl lf ↦ elim (All-contains (λ r. Contains kept r ⊎ Implied t cs final first r) low n left (lows.0 n lf marked)) [
                | inl k ↦ All-contains S kept n held k
                | inr i ↦ by_reason i
              ]
              | inr gf ↦ let e : n ≡ p = only.2 n gf (omega (arith, len)) marked in subst S (sym e) hp
            ]
            | inr i ↦ by_reason i
          ] in
          subst S (sym same) here
    ]

pub kept_recover : (t : Trail) (cs : List (List Lit)) (marks final : List Bool) (first floor p : ℕ) (low kept : List ℕ) →
    Based t.literals.items t.reasons.items cs → 0 < length t.level_starts.items → first ≡ get_or t.level_starts.items 0 0 →
    length marks ≡ length t.literals.items → OnlyMark marks floor p → LowListed marks floor low → MarksImplied t cs first marks final →
    All (λ q. Contains kept q ⊎ Implied t cs final first q) low → Recovers t.literals.items cs marks p kept
kept_recover t cs marks final first floor p low kept based some ef len only lows new left s closed hp held q lq m =
    implied_held t cs s marks final first floor p low kept based closed (first_held t cs s first based closed some ef) len only lows new.1 left hp held
    (length t.literals.items) (omega arith) q lq (inl m)

-- the list may be in another order
pub low_sorted : (marks : List Bool) (floor : ℕ) (old new : List ℕ) → IsPermutation old new → LowListed marks floor old → LowListed marks floor new
low_sorted marks floor old new same listed = (
  λ q below marked. Contains-permutation old new q same (listed.0 q below marked),
  All-permutation (λ q. (q < floor) × Marked marks q) old new same listed.1,
)
