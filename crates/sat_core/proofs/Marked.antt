use Rattle.std.proofs.Common.{◌≡◌, ℕ, ◌<◌, ◌+◌, Bool, true, false, List, [], length, take, get_or, sym, subst, ap, ◌∙◌, inl, inr, arith, set, get_or-set_other, get_or-set_same}
use Rattle.std.proofs.lemmas.Bool.{cases_eq}
use Rattle.std.proofs.lemmas.List.Elements.{All-more}
use Rattle.clause_core.specs.declared.literal.Lit.{Lit}
use Rattle.clause_core.specs.Literals.{at}
use Rattle.clause_core.specs.Propagation.{Closed}
use Rattle.sat_core.specs.Positions.{Marked, MarksAdded}
use Rattle.sat_prop.specs.Trails.{PlacesMatch, Forced}

-- a literal that a clause forced is in each closed set that has the marked ones of the clause
pub forced_in : (trail : List Lit) (positions : List ℕ) (cs : List (List Lit)) (t : Lit → Bool) (p k : ℕ) (old new : List Bool) →
    p < length trail → k < length cs → PlacesMatch trail positions → Forced trail p (get_or cs k []) →
    MarksAdded positions (get_or cs k []) p old new → Closed t cs →
    ((q : ℕ) → q < length trail → Marked new q → t (at trail q) ≡ true) → t (at trail p) ≡ true
forced_in trail positions cs t p k old new lp lk ok forced added closed held =
    closed k [] lk (at trail p) (
      forced.0,
      λ j d lt ne.
          let c = get_or cs k [] in
          let m = get_or c j d in
          let h = forced.1 j d lt ne in
          let lq : h.0 < length trail = omega (arith, h.1) in
          let here : get_or positions m.var 0 ≡ h.0 = ap (λ (l : Lit). get_or positions l.var 0) (sym h.2) ∙ ok h.0 lq in
          let other : get_or positions m.var 0 ≡ p → ⊥ = λ e. omega (arith, h.1, here, e) in
          let P : ℕ → Type 0 = Marked new in
          let marked : Marked new h.0 = subst P here (added.1 j d lt other) in
          ap t (sym h.2) ∙ held h.0 lq marked,
    )

pub marked_set : (marks : List Bool) (q k : ℕ) → q < length marks → Marked marks k → Marked (set marks q true) k
marked_set marks q k lt h =
    elim (cases_eq k q) [ inl same ↦ rw same (get_or-set_same marks q true false lt) | inr ne ↦ rw get_or-set_other h ]

pub mark_new : (positions : List ℕ) (c : List Lit) (p i : ℕ) (d : Lit) (old v : List Bool) → i < length c →
    get_or positions (get_or c i d).var 0 < length v → MarksAdded positions (take i c) p old v →
    MarksAdded positions (take (i + 1) c) p old (set v (get_or positions (get_or c i d).var 0) true)
mark_new positions c p i d old v lt in_v h =
    let q = get_or positions (get_or c i d).var 0 in
    let w = set v q true in (
      λ k m. marked_set v q k in_v (h.0 k m),
      All-more (λ m. (get_or positions m.var 0 ≡ p → ⊥) → Marked w (get_or positions m.var 0)) c i d lt
          (λ k x l ne. marked_set v q (get_or positions (get_or (take i c) k x).var 0) in_v (h.1 k x l ne))
          (λ _. get_or-set_same v q true false in_v),
    )

pub mark_kept : (positions : List ℕ) (c : List Lit) (p i : ℕ) (d : Lit) (old v : List Bool) → i < length c →
    ((get_or positions (get_or c i d).var 0 ≡ p → ⊥) → Marked v (get_or positions (get_or c i d).var 0)) →
    MarksAdded positions (take i c) p old v → MarksAdded positions (take (i + 1) c) p old v
mark_kept positions c p i d old v lt here h =
    (h.0, All-more (λ m. (get_or positions m.var 0 ≡ p → ⊥) → Marked v (get_or positions m.var 0)) c i d lt h.1 here)
