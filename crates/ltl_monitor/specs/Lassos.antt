-- Lassos of transition systems over bits.
use Rattle.std.specs.Prelude.{ℕ, zero, suc, ◌+◌, ◌-◌, ◌*◌, ◌<◌, ◌≤◌, Bool, List, All, nat_lt, if◌then◌else◌}
use Rattle.clause_core.specs.declared.literal.Lit.{Lit}
use Rattle.clause_core.specs.Systems.{TransitionSystem, FirstBits, StepBits, DefinedTrue}
use Rattle.ltl_monitor.specs.States.{shown}
use Rattle.ltl_monitor.specs.FairLasso.{Sequence}

-- n states, the first an initial state, each next by a step, and a step from the last back to the one at l
pub record IsLasso (sys : TransitionSystem) (xs : ℕ → ℕ → Bool) (n l : ℕ) : Type 0 where
  pub inside : l < n
  pub first : FirstBits sys (xs 0)
  pub steps : (i : ℕ) → i + 1 < n → StepBits sys (xs i) (xs (i + 1))
  pub back : StepBits sys (xs (n - 1)) (xs l)

-- each fairness literal is true at some state of the loop
abbrev pub IsFair : TransitionSystem → (ℕ → ℕ → Bool) → ℕ → ℕ → Type 0
IsFair sys xs n l = All (λ z. (j : ℕ) × (l ≤ j) × (j < n) × DefinedTrue sys (xs j) z) sys.fair

-- the state of a lasso at a time: after the last comes the one at l
abbrev pub state_at : ℕ → ℕ → ℕ → ℕ
state_at n l zero = 0
state_at n l (suc t) = if nat_lt (state_at n l t + 1) n then state_at n l t + 1 else l

-- which atoms and JUSTICE literals are true at each time, where `values i` are the values of state i
abbrev pub word_of : TransitionSystem → List Lit → (ℕ → ℕ → Bool) → ℕ → ℕ → Sequence
word_of sys atoms values n l t = (shown sys atoms (values (state_at n l t)) (values (state_at n l t))).atom

-- a state of the system, and bits after its own
abbrev pub with_bits : ℕ → (ℕ → Bool) → (ℕ → Bool) → ℕ → Bool
with_bits own x b v = if nat_lt v own then x v else b (v - own)

-- the stretch of a lasso by h passes of its loop has bits with which it is a fair lasso of the monitored system
abbrev pub HasFairLasso : TransitionSystem → TransitionSystem → (ℕ → ℕ → Bool) → ℕ → ℕ → ℕ → Type 0
HasFairLasso sys m xs n l h =
    (b : ℕ → ℕ → Bool)
    × IsLasso m (λ i. with_bits sys.state_bits (xs (state_at n l i)) (b i)) (n + h * (n - l)) (l + h * (n - l))
    × IsFair m (λ i. with_bits sys.state_bits (xs (state_at n l i)) (b i)) (n + h * (n - l)) (l + h * (n - l))
