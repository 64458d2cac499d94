-- Runs of a system with a formula's monitor beside them, and how many signals they have.
use Rattle.std.specs.Prelude.{ℕ, ◌+◌, ◌<◌, ◌≤◌, Bool, List}
use Rattle.ltl_meaning.specs.Ltl.{Ltl}
use Rattle.clause_core.specs.declared.literal.Lit.{Lit}
use Rattle.clause_core.specs.Assignments.{Agrees}
use Rattle.clause_core.specs.Systems.{TransitionSystem, FirstBits, StepBits, BadBits, ReachedWithin}
use Rattle.ltl_monitor.specs.States.{Extends, shown, justice_of}
use Rattle.ltl_monitor.specs.FairLasso.{Sequence, beside, Signals}

-- states of a run of n steps: the first an initial state, each next by a step
pub record IsRun (sys : TransitionSystem) (xs : ℕ → ℕ → Bool) (n : ℕ) : Type 0 where
  pub first : FirstBits sys (xs 0)
  pub steps : (i : ℕ) → i < n → StepBits sys (xs i) (xs (i + 1))

-- which atoms and JUSTICE literals are true in each state of a run, where `values i` are the values of state i
abbrev pub word_along : TransitionSystem → List Lit → (ℕ → ℕ → Bool) → Sequence
word_along sys atoms values i = (shown sys atoms (values i) (values i)).atom

-- a run of n steps, with bits beside its states that make it a monitored run, on which there are at least k signals
pub record SignalRun (sys : TransitionSystem) (f : Ltl) (atoms : List Lit) (n k : ℕ) : Type 0 where
  pub xs : ℕ → ℕ → Bool
  pub values : ℕ → ℕ → Bool
  pub bits : ℕ → ℕ → Bool
  pub run : IsRun sys xs n
  pub extends : (i : ℕ) → Extends sys (xs i) (values i)
  pub signals : Signals (justice_of sys atoms) f (beside (word_along sys atoms values) bits) (n + 1) k

-- a monitored run of at most n steps has at least k signals
abbrev pub SignalsWithin : TransitionSystem → Ltl → List Lit → ℕ → ℕ → Type 0
SignalsWithin sys f atoms n k = (i : ℕ) × (i ≤ n) × SignalRun sys f atoms i k

-- a bad state is reached in at most n steps
abbrev pub BadWithin : TransitionSystem → ℕ → Type 0
BadWithin sys n = (x : ℕ → Bool) × ReachedWithin sys n x × BadBits sys x

-- cut to the state bits of the old system, initial states and steps of the new one are among those of the old one
pub record IsCut (old new : TransitionSystem) : Type 0 where
  pub bits : old.state_bits ≤ new.state_bits
  pub first : (x : ℕ → Bool) → FirstBits new x → FirstBits old x
  pub step : (x y : ℕ → Bool) → StepBits new x y → StepBits old x y

-- the other way round: each initial state of the old system is that of the new one, cut; and where a state of the new
-- one is cut to the state before a step of the old one, it has a step that is cut to this
pub record IsCutOnto (old new : TransitionSystem) : Type 0 where
  pub first : (x : ℕ → Bool) → FirstBits old x → (z : ℕ → Bool) × Agrees old.state_bits x z × FirstBits new z
  pub step : (x y z : ℕ → Bool) → Agrees old.state_bits x z → StepBits old x y →
      (w : ℕ → Bool) × Agrees old.state_bits y w × StepBits new z w
