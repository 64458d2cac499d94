-- What the calls below `replay` give.
use Rattle.std.specs.Prelude.{◌≡◌, ◌<◌, ℕ, Bool, true, false, List, [], Option, None, Some, unwrap_or}
use Rattle.smv_tree.specs.declared.tree.Program.{Program}
use Rattle.smv_value.specs.declared.value.Value.{Value}
use Rattle.trace_replay.specs.declared.telling.Told.{Told}
use Rattle.trace_replay.specs.declared.telling.Telling.{Telling}
use Rattle.trace_replay.specs.declared.telling.Telling.TheVariants as telling
use Rattle.trace_replay.specs.declared.trace.Trace.{Trace}
use Rattle.trace_replay.specs.Rows.{inputs_read, inputs_told, states_told}
use Rattle.trace_replay.specs.Tests.{inputs_fit, values_fit}

-- the test holds of all numbers below this one, and not of it
pub record FirstFailing (test : ℕ → Bool) (n : ℕ) : Type 0 where
  pub fails : test n ≡ false
  pub before : (i : ℕ) → i < n → test i ≡ true

-- the first number of which the test does not hold, if there is one
abbrev pub IsFirstFailing : (ℕ → Bool) → Option ℕ → Type 0
IsFirstFailing test None = (i : ℕ) → test i ≡ true
IsFirstFailing test (Some n) = FirstFailing test n

-- all values are told as they should be, and these are the values
pub record IsTold (p : Program) (t : Trace) (told : Told) : Type 0 where
  pub fit : (i : ℕ) → values_fit p t i ≡ true
  pub states : told.states ≡ states_told p t
  pub inputs : told.inputs ≡ inputs_told p t

abbrev pub IsTelling : Program → Trace → Telling → Type 0
IsTelling p t (telling.Unfit n) = FirstFailing (values_fit p t) n
IsTelling p t (telling.Fit told) = IsTold p t told

-- the values of the inputs of this number, if they are told as they should be
abbrev pub AreInputs : Program → Trace → ℕ → Option (List Value) → Type 0
AreInputs p t i None = inputs_fit p t i ≡ false
AreInputs p t i (Some u) = (inputs_fit p t i ≡ true) × (u ≡ unwrap_or (inputs_read p t i) [])
