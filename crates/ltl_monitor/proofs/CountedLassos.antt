-- Where no bad state of the counted system is reached, the monitored system has no fair lasso.
use Rattle.std.proofs.Common.{inl, inr, ◌≡◌, ℕ, zero, suc, ◌+◌, ◌-◌, ◌*◌, ◌<◌, ◌≤◌, Bool, true, false, List, [], ◌∷◌, map, length, get_or, sym, ap, ◌∙◌, subst, arith}
use Rattle.std.specs.Prelude.{slice_index_or}
use Rattle.std.proofs.lemmas.Bool.{cases_lt}
use Rattle.ltl_meaning.proofs.Walk.{walk_visits}
use Rattle.clause_core.specs.declared.literal.Lit.{Lit}
use Rattle.clause_core.specs.Assignments.{Agrees}
use Rattle.clause_core.specs.Systems.{TransitionSystem, Gives, StepBits, BadBits, ReachedWithin}
use Rattle.ltl_monitor.specs.Monitor.{Side, Set, Each}
use Rattle.ltl_monitor.specs.Signal.{signal, count}
use Rattle.ltl_monitor.specs.States.{value, Extends, numbers}
use Rattle.ltl_monitor.specs.Counted.{IsCounted}
use Rattle.ltl_monitor.specs.Lassos.{IsLasso, IsFair, state_at}
use Rattle.ltl_monitor.proofs.Clauses.{same_refl}
use Rattle.ltl_monitor.proofs.Signals.{signals_come}
use Rattle.ltl_monitor.proofs.BitLassos.{state_walk, state_stays, state_turns, state_inside}
use Rattle.ltl_monitor.proofs.CountedRuns.{told, sides_of, told_sets, kth, run, reaches, bad_at}

module _ (m c : TransitionSystem) (k : ℕ) (isc : IsCounted m k c) (gives : Gives m.state_bits m.fair m.defs)
    (xs : ℕ → ℕ → Bool) (n l : ℕ) (lasso : IsLasso m xs n l) (fair : IsFair m xs n l) where
  abbrev pub z : ℕ
  z = length m.fair

  -- the lasso's state at a time, and its values
  abbrev pub ys : ℕ → ℕ → Bool
  ys t = xs (state_at n l t)

  abbrev pub E : ℕ → ℕ → Bool
  E t = (gives.extends (ys t)).0

  ext : (t : ℕ) → Extends m (ys t) (E t)
  ext t = (let g = gives.extends (ys t) in (g.1, g.2))

  abbrev pub s : ℕ → Side
  s = sides_of m E

  abbrev pub zs : List Set
  zs = told_sets m

  -- each literal holds again
  lit_again : (j : ℕ) → j < z → (t : ℕ) → (u : ℕ) × (t ≤ u) × (u < t + (n + n)) × (told j (s u) ≡ true)
  lit_again j lt t =
      let d : Lit = record { var = 0; positive = false } in
      let q = fair j d lt in
      let v = walk_visits n l lasso.inside t q.0 q.1 q.2 in
      let e : state_at n l v.0 ≡ q.0 = state_walk n l v.0 ∙ v.3 in
      let a = q.3 in
      let g = gives.extends (xs (state_at n l v.0)) in
      let agree : Agrees m.state_bits a.0 g.0 = λ i li. a.1 i li ∙ ap (λ w. xs w i) (sym e) ∙ sym (g.1 i li) in
      let same = (gives.one_way a.0 g.0 agree a.2 g.2).0 j d lt in
      (v.0, v.1, v.2, at_values (E v.0) m.fair j d lt (same_refl (get_or m.fair j d).positive (E v.0 (get_or m.fair j d).var) (sym a.3 ∙ same)))
    where
      at_values : (e : ℕ → Bool) (ls : List Lit) (i : ℕ) (d : Lit) → i < length ls → value e (get_or ls i d) ≡ true → slice_index_or (map (value e) ls) i false ≡ true
      at_values e [] i d lt h = absurd (omega (arith, lt))
      at_values e (q ∷ ls) zero d lt h = h
      at_values e (q ∷ ls) (suc i) d lt h = at_values e ls i d (omega (arith, lt)) h

  Again : Set → Type 0
  Again y = (t : ℕ) → (u : ℕ) × (t ≤ u) × (u < t + (n + n)) × (y (s u) ≡ true)

  all_again : (ls : List Lit) (j : ℕ) → j + length ls ≤ z → Each (λ y. (t : ℕ) → (u : ℕ) × (t ≤ u) × (u < t + (n + n)) × (y (s u) ≡ true)) (map told (numbers j ls))
  all_again [] j h = tt
  all_again (q ∷ ls) j h = (lit_again j (omega (arith, h)), all_again ls (j + 1) (omega (arith, h)))

  come : (i : ℕ) × (i < (k + 1) * (n + n + 1)) × (count zs s i ≡ k) × (signal zs s i ≡ true)
  come = kth zs s k ((k + 1) * (n + n + 1)) (signals_come zs s (n + n) (all_again m.fair 0 (omega arith)) (k + 1))

  around : (t : ℕ) → StepBits m (xs (state_at n l t)) (xs (state_at n l (t + 1)))
  around t = elim (cases_lt (state_at n l t + 1) n) [
    | inl b ↦ subst (λ i. StepBits m (xs (state_at n l t)) (xs i)) (sym (state_stays n l lasso.inside t b)) (lasso.steps (state_at n l t) b)
    | inr b ↦
        let i = state_inside n l lasso.inside t in
        let e : n - 1 ≡ state_at n l t = omega (arith, i, b) in
        subst (λ i. StepBits m (xs (state_at n l t)) (xs i)) (sym (state_turns n l lasso.inside t b)) (subst (λ i. StepBits m (xs i) (xs l)) e lasso.back)
  ]

  -- a bad state is reached
  pub bad_reached : (t : ℕ) × (x : ℕ → Bool) × ReachedWithin c t x × BadBits c x
  bad_reached =
      let w = come in (
        w.0,
        run m c k isc ys E ext w.0,
        reaches m c k isc ys E ext lasso.first w.0 (λ t lt. around t),
        bad_at m c k isc ys E ext w.0 w.2 w.3,
      )
