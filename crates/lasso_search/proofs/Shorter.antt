-- A fair lasso goes on round its loop, so there is one with a state more: where a length has none, no shorter one has.
use Rattle.std.proofs.Common.{inl, inr, ◌≡◌, ℕ, zero, suc, ◌+◌, ◌-◌, ◌<◌, ◌≤◌, Bool, get_or, sym, ap, ◌∙◌, subst, arith}
use Rattle.std.proofs.lemmas.Bool.{cases_lt}
use Rattle.ltl_meaning.proofs.Walk.{walk_same}
use Rattle.clause_core.specs.Systems.{TransitionSystem, StepBits, DefinedTrue}
use Rattle.ltl_monitor.specs.Lassos.{IsLasso, IsFair, state_at}
use Rattle.ltl_monitor.proofs.BitLassos.{state_walk, state_turns, repeats}
use Rattle.lasso_search.specs.Lassos.{HasNoFairLasso}
use Rattle.lasso_search.proofs.Stretched.{round, around}

module _ (m : TransitionSystem) (xs : ℕ → ℕ → Bool) (n l : ℕ) (lasso : IsLasso m xs n l) where
  abbrev again : ℕ → ℕ → Bool
  again = round m xs n l lasso

  at_own : (i : ℕ) → i < n → state_at n l i ≡ i
  at_own i lt = state_walk n l i ∙ walk_same n l lasso.inside i lt

  at_end : state_at n l n ≡ l
  at_end =
      let inside = lasso.inside in
      let k = at_own (n - 1) (omega (arith, inside)) in
      let e : n - 1 + 1 ≡ n = omega (arith, inside) in
      subst (λ i. state_at n l i ≡ l) e (state_turns n l inside (n - 1) (omega (arith, k, inside)))

  longer : IsLasso m again (n + 1) (l + 1)
  longer =
      let inside = lasso.inside in
      let last : ℕ = n + 1 - 1 in
      let e : last + 1 ≡ l + 1 + (n - l) = omega (arith, inside) in
      let same : state_at n l (last + 1) ≡ state_at n l (l + 1) = ap (state_at n l) e ∙ repeats n l inside (l + 1) (omega arith) in
      record {
        inside = omega (arith, inside);
        first = lasso.first;
        steps = λ i lt. around m xs n l lasso i;
        back = subst (λ j. StepBits m (again last) (xs j)) same (around m xs n l lasso last);
      }

  longer_fair : IsFair m xs n l → IsFair m again (n + 1) (l + 1)
  longer_fair fair = λ q d lt.
      (let f = fair q d lt in
      let inside = lasso.inside in
      elim (cases_lt l f.0) [
        | inl after ↦
            (f.0, omega (arith, after), omega (arith, f.2), subst (λ j. DefinedTrue m (xs j) (get_or m.fair q d)) (sym (at_own f.0 f.2)) f.3)
        | inr here ↦
            (let e : f.0 ≡ l = omega (arith, f.1, here) in
            (n, omega (arith, inside), omega arith, subst (λ j. DefinedTrue m (xs j) (get_or m.fair q d)) (e ∙ sym at_end) f.3))
      ])

none_before : (m : TransitionSystem) (n : ℕ) → HasNoFairLasso m (n + 1) → HasNoFairLasso m n
none_before m n none = record { never = λ xs l lasso fair. none.never (round m xs n l lasso) (l + 1) (longer m xs n l lasso) (longer_fair m xs n l lasso fair) }

none_below : (m : TransitionSystem) (d k : ℕ) → HasNoFairLasso m (k + d) → HasNoFairLasso m k
none_below m zero k none = (let e : k + 0 ≡ k = omega arith in subst (HasNoFairLasso m) e none)
none_below m (suc d) k none =
    (let e : k + suc d ≡ k + d + 1 = omega arith in none_below m d k (none_before m (k + d) (subst (HasNoFairLasso m) e none)))

-- a length that has none stands for all that are less
pub none_shorter : (m : TransitionSystem) (k n : ℕ) → k ≤ n → HasNoFairLasso m n → HasNoFairLasso m k
none_shorter m k n le none =
    (let e : k + (n - k) ≡ n = omega (arith, le) in none_below m (n - k) k (subst (HasNoFairLasso m) (sym e) none))
