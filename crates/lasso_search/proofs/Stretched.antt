-- A lasso of a system, gone round more often, and seen without the bits of its monitor.
use Rattle.std.proofs.Common.{inl, inr, ◌≡◌, ℕ, ◌+◌, ◌-◌, ◌*◌, Bool, List, get_or, sym, ap, ◌∙◌, subst, arith}
use Rattle.std.proofs.lemmas.Bool.{cases_lt}
use Rattle.ltl_meaning.specs.Ltl.{Ltl, past_height}
use Rattle.ltl_meaning.proofs.Walk.{walk_same}
use Rattle.clause_core.specs.declared.literal.Lit.{Lit}
use Rattle.clause_core.specs.Systems.{TransitionSystem, Gives, StepBits, DefinedTrue}
use Rattle.ltl_monitor.specs.FairLasso.{Violates}
use Rattle.ltl_monitor.specs.States.{Extends, justice_of, IsMonitor}
use Rattle.ltl_monitor.specs.Lassos.{IsLasso, IsFair, state_at, word_of, with_bits, HasFairLasso}
use Rattle.ltl_monitor.proofs.BitLassos.{exact, state_walk, state_stays, state_turns, state_inside, repeats, many}
use Rattle.lasso_search.specs.Lassos.{HasNoFairLasso}
use Rattle.lasso_search.proofs.Places.{yes, no_}

module _ (m : TransitionSystem) (xs : ℕ → ℕ → Bool) (n l : ℕ) (lasso : IsLasso m xs n l) where
  abbrev pub round : ℕ → ℕ → Bool
  round i = xs (state_at n l i)

  -- a step at each time
  pub around : (i : ℕ) → StepBits m (round i) (round (i + 1))
  around i = elim (cases_lt (state_at n l i + 1) n) [
    | inl low ↦ subst (λ k. StepBits m (round i) (xs k)) (sym (state_stays n l lasso.inside i low)) (lasso.steps (state_at n l i) low)
    | inr high ↦
        (let k = state_inside n l lasso.inside i in
        let e : n - 1 ≡ state_at n l i = omega (arith, k, high) in
        subst (λ k. StepBits m (round i) (xs k)) (sym (state_turns n l lasso.inside i high)) (subst (λ k. StepBits m (xs k) (xs l)) e lasso.back))
  ]

  -- with k passes more of the loop
  pub stretched : (k : ℕ) → IsLasso m round (n + k * (n - l)) (l + k * (n - l))
  stretched k =
      let inside = lasso.inside in
      let last : ℕ = n + k * (n - l) - 1 in
      let e : last + 1 ≡ l + k * (n - l) + (n - l) = omega (arith, inside) in
      let same : state_at n l (last + 1) ≡ state_at n l (l + k * (n - l)) = ap (state_at n l) e ∙ repeats n l inside (l + k * (n - l)) (omega arith) in
      record {
        inside = omega (arith, inside);
        first = lasso.first;
        steps = λ i lt. around i;
        back = subst (λ j. StepBits m (round last) (xs j)) same (around last);
      }

  pub stretched_fair : IsFair m xs n l → (k : ℕ) → IsFair m round (n + k * (n - l)) (l + k * (n - l))
  stretched_fair fair k = λ q d lt.
      (let f = fair q d lt in
      let inside = lasso.inside in
      let there : state_at n l (f.0 + k * (n - l)) ≡ f.0 = many n l inside k f.0 f.1 ∙ state_walk n l f.0 ∙ walk_same n l inside f.0 f.2 in
      (f.0 + k * (n - l), omega (arith, f.1), omega (arith, f.2), subst (λ j. DefinedTrue m (xs j) (get_or m.fair q d)) (sym there) f.3))

module _ (sys m : TransitionSystem) (f : Ltl) (atoms : List Lit) (ism : IsMonitor sys f atoms m) (gives : Gives m.state_bits m.fair m.defs)
    (xs values : ℕ → ℕ → Bool) (n l : ℕ) (extend : (i : ℕ) → Extends sys (xs i) (values i)) where
  -- its states are a lasso of the system
  pub below_monitor : IsLasso m xs n l → IsLasso sys xs n l
  below_monitor lasso = record {
    inside = lasso.inside;
    first = ((ism.first (xs 0) (values 0) (extend 0)).0 lasso.first).0;
    steps = λ i lt. ((ism.step (xs i) (xs (i + 1)) (values i) (values (i + 1)) (extend i) (extend (i + 1))).0 (lasso.steps i lt)).0;
    back = ((ism.step (xs (n - 1)) (xs l) (values (n - 1)) (values l) (extend (n - 1)) (extend l)).0 lasso.back).0;
  }

  -- a state's bits are the system's and those after them
  joined : (x : ℕ → Bool) (v : ℕ) → x v ≡ with_bits sys.state_bits x (λ k. x (sys.state_bits + k)) v
  joined x v = elim (cases_lt v sys.state_bits) [
    | inl low ↦ sym (yes v sys.state_bits _ _ low)
    | inr high ↦ (let e : v ≡ sys.state_bits + (v - sys.state_bits) = omega arith in ap x e ∙ sym (no_ v sys.state_bits _ _ high))
  ]

  has_fair : IsLasso m xs n l → IsFair m xs n l → HasFairLasso sys m xs n l (past_height f)
  has_fair lasso fair =
      let h : ℕ = past_height f in
      let b : ℕ → ℕ → Bool = λ i k. xs (state_at n l i) (sys.state_bits + k) in
      let e : round m xs n l lasso ≡ (λ i. with_bits sys.state_bits (xs (state_at n l i)) (b i)) = λ t i v. joined (xs (state_at n l i)) v t in (
        b,
        subst (λ (ys : ℕ → ℕ → Bool). IsLasso m ys (n + h * (n - l)) (l + h * (n - l))) e (stretched m xs n l lasso h),
        subst (λ (ys : ℕ → ℕ → Bool). IsFair m ys (n + h * (n - l)) (l + h * (n - l))) e (stretched_fair m xs n l lasso fair h),
      )

  -- a fair lasso of the monitored system violates the formula
  pub violates : IsLasso m xs n l → IsFair m xs n l → Violates (justice_of sys atoms) f (word_of sys atoms values n l) n l
  violates lasso fair = (exact sys m f atoms ism gives xs values n l extend (below_monitor lasso)).1 (has_fair lasso fair)

  -- none of the stretch's length: none that violates
  pub none_violates : IsLasso sys xs n l → HasNoFairLasso m (n + past_height f * (n - l)) → Violates (justice_of sys atoms) f (word_of sys atoms values n l) n l → ⊥
  none_violates lasso none bad = let s = (exact sys m f atoms ism gives xs values n l extend lasso).0 bad in none.never _ _ s.1 s.2
