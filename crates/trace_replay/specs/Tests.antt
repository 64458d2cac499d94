-- The replay of a trace of an invariant: its tests, in their order, with the number of each. A test whose evaluation
-- faults fails.
use Rattle.std.specs.Prelude.{◌≡◌, ◌⊎◌, ℕ, ◌+◌, ◌-◌, ◌<◌, ◌==◌, nat_le, nat_lt, max, Bool, true, false, not, ◌&&◌, ◌||◌, if◌then◌else◌, List, [], ◌∷◌, length, codes, Option, None, Some, slice_get, unwrap_or}
use Rattle.std.specs.Option.{is_some}
use Rattle.smv_tree.specs.declared.tree.Program.{Program}
use Rattle.smv_value.specs.declared.value.Value.{Value}
use Rattle.smv_resolve.specs.Items.{ResolvedItem}
use Rattle.smv_slots.specs.Slots.{slots_of}
use Rattle.smv_meaning.specs.declared.outcome.Evaluation.{Evaluation}
use Rattle.smv_meaning.specs.Outcomes.{truth}
use Rattle.smv_meaning.specs.Values.{outcome_in}
use Rattle.smv_meaning.specs.Runs.{Breaks, at_time, specifications_of}
use Rattle.trace_replay.specs.declared.columns.Column.{Column}
use Rattle.trace_replay.specs.declared.rule.ReplayRule.{ReplayRule}
use Rattle.trace_replay.specs.declared.rule.ReplayRule.TheVariants as rule
use Rattle.trace_replay.specs.declared.rule.Replayed.{Replayed}
use Rattle.trace_replay.specs.declared.rule.Replayed.TheVariants.{Accepted, Rejected}
use Rattle.trace_replay.specs.declared.trace.Trace.{Trace}
use Rattle.trace_replay.specs.Faultless.{IsFaultlessRun, begins_well, stays_well, steps_well}
use Rattle.trace_replay.specs.Rows.{input_columns, inputs_read, inputs_told, run_trace, state_read, states_told}

abbrev pub rule_text : ReplayRule → List ℕ
rule_text rule.Values = codes "values"
rule_text rule.First = codes "first"
rule_text rule.Inv = codes "inv"
rule_text rule.Step = codes "step"
rule_text rule.Loop = codes "loop"
rule_text rule.Fair = codes "fair"
rule_text rule.Spec = codes "spec"

-- their order
abbrev pub rank : ReplayRule → ℕ
rank rule.Values = 0
rank rule.First = 1
rank rule.Inv = 2
rank rule.Step = 3
rank rule.Loop = 4
rank rule.Fair = 5
rank rule.Spec = 6

-- how many lines of inputs there are beside so many states: one for each step; none without input slots
abbrev pub due_beside : List Column → ℕ → ℕ
due_beside [] states = 0
due_beside (c ∷ cs) states = states - 1

abbrev pub inputs_due : Program → Trace → ℕ
inputs_due p t = due_beside (input_columns p) (length t.states)

-- a state of this number is told as it should be, or need not be; there is at least one
abbrev pub state_fits : Program → Trace → ℕ → Bool
state_fits p t i = if nat_lt i (max 1 (length t.states)) then is_some (state_read p t i) else true

-- the inputs of this number are told as they should be, or need not be; just past those that are due there are none
abbrev pub inputs_fit : Program → Trace → ℕ → Bool
inputs_fit p t i =
    if nat_lt i (inputs_due p t) then is_some (inputs_read p t i)
    else if i == inputs_due p t then nat_le (length t.inputs) i
    else true

-- the specification is FALSE
abbrev pub is_false : Evaluation → Bool
is_false o = not (unwrap_or (truth o) true)

abbrev pub starts_at : Option ℕ → ℕ → Bool
starts_at None i = false
starts_at (Some n) i = n == i

-- The tests, each at a number. A test that has no such number is passed.

-- the values of this number are told as they should be
abbrev pub values_fit : Program → Trace → ℕ → Bool
values_fit p t i = state_fits p t i && inputs_fit p t i

-- state 0 is an initial state, and nothing that is asked of it faults
abbrev pub begins : Program → List (List Value) → ℕ → Bool
begins p states i = not (i == 0) || begins_well p (at_time states 0)

-- state i has what invariants ask, and none of these faults there
abbrev pub stays : Program → List (List Value) → ℕ → Bool
stays p states i = not (nat_lt i (length states)) || stays_well p (at_time states i)

-- there is a step from state i to state i + 1, and nothing that is asked of it faults
abbrev pub goes_on : Program → List (List Value) → List (List Value) → ℕ → Bool
goes_on p states inputs i = not (nat_lt (i + 1) (length states)) || steps_well p (at_time states i) (at_time inputs i) (at_time states (i + 1))

-- the specification is FALSE in the last state
abbrev pub ends : Program → ResolvedItem → List (List Value) → ℕ → Bool
ends p spec states i = not (i == 0) || is_false (outcome_in (slots_of p) (at_time states (length states - 1)) spec.value)

-- whether a trace passes a test at a number
abbrev pub passes : Program → ResolvedItem → Trace → ReplayRule → ℕ → Bool
passes p spec t rule.Values i = values_fit p t i
passes p spec t rule.First i = begins p (states_told p t) i
passes p spec t rule.Inv i = stays p (states_told p t) i
passes p spec t rule.Step i = goes_on p (states_told p t) (inputs_told p t) i
passes p spec t rule.Loop i = not (starts_at t.start i)
passes p spec t rule.Fair i = true
passes p spec t rule.Spec i = ends p spec (states_told p t) i

-- a test and its number come before another
abbrev pub IsEarlier : ReplayRule → ℕ → ReplayRule → ℕ → Type 0
IsEarlier r i s j = (rank r < rank s) ⊎ ((r ≡ s) × (i < j))

-- this is the first test that fails
pub record FailsFirst (p : Program) (spec : ResolvedItem) (t : Trace) (rule : ReplayRule) (number : ℕ) : Type 0 where
  pub fails : passes p spec t rule number ≡ false
  pub earlier : (r : ReplayRule) (i : ℕ) → IsEarlier r i rule number → passes p spec t r i ≡ true

-- what comes of the tests: each is passed, or this is the first that fails
abbrev pub IsReplay : Program → ResolvedItem → Trace → Replayed → Type 0
IsReplay p spec t Accepted = (r : ReplayRule) (i : ℕ) → passes p spec t r i ≡ true
IsReplay p spec t (Rejected rule number) = FailsFirst p spec t rule number

-- the specification of this number, counted from 1
abbrev pub specification_at : Program → ℕ → Option ResolvedItem
specification_at p number = slice_get (specifications_of p) (number - 1)

-- the trace is that of a run that breaks the specification, evaluated without a fault
pub record ShowsBroken (p : Program) (spec : ResolvedItem) (t : Trace) : Type 0 where
  pub states : List (List Value)
  pub inputs : List (List Value)
  pub told : t ≡ run_trace p states inputs
  pub broken : Breaks p spec states inputs
  pub faultless : IsFaultlessRun p states inputs
