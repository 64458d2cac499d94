-- Lassos as sequences of moments: which atoms are true at each time, where times repeat.
use Rattle.std.specs.Prelude.{ℕ, ◌+◌, ◌-◌, ◌*◌, ◌<◌, ◌≤◌, ◌≡◌, Bool, true, List}
use Rattle.ltl_meaning.specs.Ltl.{Ltl}
use Rattle.ltl_meaning.specs.Truth.{Moment, Satisfies}
use Rattle.ltl_monitor.specs.Monitor.{Side, Each, IsMonitored, IsFairMonitored, all_sets}
use Rattle.ltl_monitor.specs.Signal.{count}

-- which atoms are true at each time
abbrev pub Sequence : Type 0
Sequence = ℕ → ℕ → Bool

abbrev pub along : Sequence → ℕ → Moment
along x a i = x i a ≡ true

-- from l on, the atoms are the same p later
abbrev pub Loops : Sequence → ℕ → ℕ → Type 0
Loops x l p = (i a : ℕ) → l ≤ i → x (i + p) a ≡ x i a

-- a lasso of n states that goes on at l meets each JUSTICE in its loop, and not the formula
pub record Violates (justice : List ℕ) (f : Ltl) (x : Sequence) (n l : ℕ) : Type 0 where
  pub fair : Each (λ a. (j : ℕ) × (l ≤ j) × (j < n) × (x j a ≡ true)) justice
  pub false : Satisfies (along x) f 0 → ⊥

-- bits beside a sequence
abbrev pub beside : Sequence → (ℕ → ℕ → Bool) → ℕ → Side
beside x b i = record { atom = x i; bit = b i }

-- bits that make the stretch by k passes a fair monitored lasso
abbrev pub HasMonitor : List ℕ → Ltl → Sequence → ℕ → ℕ → ℕ → Type 0
HasMonitor justice f x n l k =
    (b : ℕ → ℕ → Bool) × IsFairMonitored justice f (beside x b) (n + k * (n - l)) (l + k * (n - l))

-- a monitored run with at least m signals
pub record Signals (justice : List ℕ) (f : Ltl) (s : ℕ → Side) (n m : ℕ) : Type 0 where
  pub some : 0 < n
  pub run : IsMonitored f s n
  pub counted : m ≤ count (all_sets justice f) s n
