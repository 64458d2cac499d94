-- Satisfied clauses may be dropped.
use Rattle.std.proofs.Common.{◌≡◌, ℕ, ◌<◌, ◌≤◌, ◌⊎◌, Bool, true, false, List, [], ◌∷◌, length, take, get_or, zero, suc, add-one, refl, subst, inl, inr, arith}
use Rattle.std.specs.List.{Contains}
use Rattle.std.proofs.lemmas.Bool.{cases_Bool, both_ways}
use Rattle.std.proofs.lemmas.List.{take_all}
use Rattle.std.proofs.lemmas.List.Elements.{All-nil, All-cons, All-contains, All-more}
use Rattle.clause_core.specs.declared.literal.Lit.{Lit}
use Rattle.clause_core.specs.Literals.{negate, at}
use Rattle.clause_core.specs.Propagation.{UnitIn, Closed, HasConflict, Reaches, Conflicting, DecisionsOpen}
use Rattle.clause_core.specs.Satisfied.{IsSatisfied, DropsSatisfied, PropagateAlike}
use Rattle.clause_core.proofs.LeastSets.{Least, least_set, lit_cases}

-- a literal and its negation are set
abbrev Both : (Lit → Bool) → Type 0
Both t = (l : Lit) × (t l ≡ true) × (t (negate l) ≡ true)

abbrev IsClosedAt : (Lit → Bool) → List Lit → Type 0
IsClosedAt t c = (l : Lit) → UnitIn t c l → t l ≡ true

-- a clause with a true literal that is not false asks for nothing
asks_nothing : (t : Lit → Bool) (c : List Lit) (m : Lit) → Contains c m → t m ≡ true → t (negate m) ≡ false → IsClosedAt t c
asks_nothing t c m has on off l unit = elim (lit_cases m l) [
  | inl e ↦ (let P : Lit → Type 0 = λ x. t x ≡ true in subst P e on)
  | inr ne ↦ absurd (both_ways (t (negate m)) off (All-contains (λ x. (x ≡ l → ⊥) → t (negate x) ≡ true) c m unit.1 has ne))
]

module _ (all kept : List (List Lit)) (drops : DropsSatisfied all kept) where
  less_closed : (t : Lit → Bool) → Closed t all → Closed t kept
  less_closed t closed k d lt = All-contains (IsClosedAt t) all (get_or kept k d) closed (drops.kept_in k d lt)

  more_conflict : (t : Lit → Bool) → HasConflict t kept → HasConflict t all
  more_conflict t (inl h) = let q = All-contains (Contains all) kept h.1 drops.kept_in (h.0, h.2, h.3) in inl (q.0, h.1, q.1, q.2, h.4)
  more_conflict t (inr h) = inr h

  -- a set that is closed under the clauses kept
  module _ (t : Lit → Bool) (closed : Closed t kept) where
    first_closed : (n : ℕ) → n ≤ length all → Both t ⊎ Closed t (take n all)
    first_closed zero le = inr (λ k d lt. absurd (omega (arith, lt)))
    first_closed (suc n) le = elim (first_closed n (omega (arith, le))) [
      | inl both ↦ inl both
      | inr before ↦
          let lt : n < length all = omega (arith, le) in
          let c = get_or all n [] in
          let more : IsClosedAt t c → Closed t (take (suc n) all) = λ now. rw (← add-one) (All-more (IsClosedAt t) all n [] lt before now) in
          elim (drops.each n [] lt) [
            | inl has ↦ inr (more (All-contains (IsClosedAt t) kept c closed has))
            | inr h ↦
                let on : t h.1 ≡ true = h.4 t (All-nil (λ d. t d ≡ true)) closed in
                elim (cases_Bool (t (negate h.1))) [
                  | inl off ↦ inl (h.1, on, off)
                  | inr free ↦ inr (more (asks_nothing t c h.1 (h.0, h.2, h.3) on free))
                ]
          ]
    ]

    both_or_closed : Both t ⊎ Closed t all
    both_or_closed =
        let P : List (List Lit) → Type 0 = λ cs. Both t ⊎ Closed t cs in
        subst P (take_all (length all) all (omega arith)) (first_closed (length all) (omega arith))

    less_conflict : HasConflict t all → HasConflict t kept
    less_conflict (inl h) = elim (All-contains (λ c. Contains kept c ⊎ IsSatisfied kept c) all h.1 drops.each (h.0, h.2, h.3)) [
      | inl has ↦ inl (has.0, h.1, has.1, has.2, h.4)
      | inr s ↦ inr (s.1, s.4 t (All-nil (λ d. t d ≡ true)) closed, All-contains (λ m. t (negate m) ≡ true) h.1 s.1 h.4 (s.0, s.2, s.3))
    ]
    less_conflict (inr h) = inr h

    conflict_by : (Closed t all → HasConflict t all) → HasConflict t kept
    conflict_by f = elim both_or_closed [
      | inl both ↦ inr both
      | inr more ↦ less_conflict (f more)
    ]

  conflict_kept : (ds : List Lit) → Conflicting all ds → Conflicting kept ds
  conflict_kept ds f t holds closed = conflict_by t closed (f t holds)

  conflict_all : (ds : List Lit) → Conflicting kept ds → Conflicting all ds
  conflict_all ds f t holds closed = more_conflict t (f t holds (less_closed t closed))

  reaches_all : (ds : List Lit) (l : Lit) → Reaches kept ds l → Reaches all ds l
  reaches_all ds l r t holds closed = r t holds (less_closed t closed)

  -- a literal and its negation that the least set has are in each
  least_conflict : (ds : List Lit) (s : Least kept ds) → Both s.set → Conflicting kept ds
  least_conflict ds s both t holds closed =
      inr (both.0, s.least both.0 both.1 t holds closed, s.least (negate both.0) both.2 t holds closed)

  reaches_kept : (ds : List Lit) (l : Lit) → (Conflicting kept ds → ⊥) → Reaches all ds l → Reaches kept ds l
  reaches_kept ds l none r =
      let s = least_set kept ds in
      elim (both_or_closed s.set s.closed) [
        | inl both ↦ absurd (none (least_conflict ds s both))
        | inr more ↦ s.least l (r s.set s.holds more)
      ]

  open_kept : (ds : List Lit) → DecisionsOpen all ds → DecisionsOpen kept ds
  open_kept ds f i lt = let h = f i lt in (
    (λ r. h.0.0 (reaches_all (take i ds) (at ds i) r), λ r. h.0.1 (reaches_all (take i ds) (negate (at ds i)) r)),
    λ e. h.1 (conflict_all (take i ds) e),
  )

  open_all : (ds : List Lit) → DecisionsOpen kept ds → DecisionsOpen all ds
  open_all ds f i lt = let h = f i lt in (
    (λ r. h.0.0 (reaches_kept (take i ds) (at ds i) h.1 r), λ r. h.0.1 (reaches_kept (take i ds) (negate (at ds i)) h.1 r)),
    λ e. h.1 (conflict_kept (take i ds) e),
  )

  pub alike : PropagateAlike all kept
  alike = record {
    follows = λ c. (λ f t out closed. conflict_by t closed (f t out), λ f t out closed. more_conflict t (f t out (less_closed t closed)));
    conflicting = λ ds. (conflict_kept ds, conflict_all ds);
    reaches = λ ds l none. (reaches_kept ds l none, reaches_all ds l);
    openings = λ ds. (open_kept ds, open_all ds);
  }

-- a clause that has a literal of a unit clause
pub unit_satisfies : (kept : List (List Lit)) (c : List Lit) (l : Lit) → Contains kept (l ∷ []) → Contains c l → IsSatisfied kept c
unit_satisfies kept c l unit has = (
  has.0,
  l,
  has.1,
  has.2,
  λ t holds closed. All-contains (IsClosedAt t) kept (l ∷ []) closed unit l (
    (0, omega arith, refl),
    All-cons (λ m. (m ≡ l → ⊥) → t (negate m) ≡ true) l [] (λ ne. absurd (ne refl)) (All-nil (λ m. (m ≡ l → ⊥) → t (negate m) ≡ true)),
  ),
)
