-- A lasso that violates stretches to a fair lasso of the monitored system.
use Rattle.std.proofs.Common.{ℕ, ◌+◌, ◌-◌, ◌*◌, ◌<◌, ◌≤◌, Bool, List, arith}
use Rattle.ltl_meaning.specs.Ltl.{Ltl, past_height}
use Rattle.clause_core.specs.declared.literal.Lit.{Lit}
use Rattle.clause_core.specs.Systems.{TransitionSystem, Gives, ReachedWithin, BadBits}
use Rattle.ltl_monitor.specs.States.{Extends, IsMonitor}
use Rattle.ltl_monitor.specs.Lassos.{IsLasso, IsFair, HasFairLasso}
use Rattle.ltl_monitor.specs.Counted.{IsCounted}
use Rattle.ltl_monitor.proofs.BitLassos.{exact}
use Rattle.ltl_monitor.proofs.CountedLassos.{bad_reached}
use Rattle.ltl_lassos.specs.Violating.{IsViolating, NeverViolated, NeverViolatedWithin, HasNoneOf}

module _ (sys m : TransitionSystem) (f : Ltl) (atoms : List Lit) (ism : IsMonitor sys f atoms m)
    (own : Gives sys.state_bits sys.fair sys.defs) (gives : Gives m.state_bits m.fair m.defs) where
  has_fair : (xs : ℕ → ℕ → Bool) (n l : ℕ) → IsViolating sys f atoms xs n l → HasFairLasso sys m xs n l (past_height f)
  has_fair xs n l is =
      let values : ℕ → ℕ → Bool = λ i. (own.extends (xs i)).0 in
      let extends : (i : ℕ) → Extends sys (xs i) (values i) = λ i. ((own.extends (xs i)).1, (own.extends (xs i)).2) in
      (exact sys m f atoms ism gives xs values n l extends is.lasso).0 (is.violates values extends)

  pub none_within : (bound : ℕ) → ((n : ℕ) → 0 < n → n ≤ bound → HasNoneOf m n) → NeverViolatedWithin sys f atoms (past_height f) bound
  none_within bound none xs n l short is =
      let s = has_fair xs n l is in
      let inside = is.lasso.inside in
      none (n + past_height f * (n - l)) (omega (arith, inside)) short _ _ s.1 s.2

  pub none_counted : (c : TransitionSystem) (k : ℕ) → IsCounted m k c → ((j : ℕ) (x : ℕ → Bool) → ReachedWithin c j x → BadBits c x → ⊥) →
      NeverViolated sys f atoms
  none_counted c k isc none xs n l is =
      let s = has_fair xs n l is in
      let b = bad_reached m c k isc gives _ _ _ s.1 s.2 in none b.0 b.1 b.2 b.3
