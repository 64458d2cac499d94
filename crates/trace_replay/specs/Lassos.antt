-- The replay of a trace of a temporal specification: its tests, in their order, with the number of each. A test whose
-- evaluation faults fails; of a JUSTICE it is enough that it is TRUE in some state.
use Rattle.std.specs.Prelude.{◌≡◌, ◌↔◌, ℕ, ◌-◌, ◌==◌, nat_le, nat_lt, Bool, true, false, not, ◌&&◌, ◌||◌, if◌then◌else◌, List, [], ◌∷◌, drop, filter, length, map, Option, None, Some, slice_get, unwrap_or}
use Rattle.std.specs.List.{list_any, range_with_len}
use Rattle.std.specs.Option.{is_some}
use Rattle.smv_tree.specs.declared.tree.Program.{Program}
use Rattle.smv_tree.specs.declared.tree.ConstraintKind.TheVariants as asked
use Rattle.smv_tree.specs.declared.tree.SpecificationKind.TheVariants as claim
use Rattle.smv_value.specs.declared.value.Value.{Value}
use Rattle.smv_resolve.specs.declared.item.ItemKind.{ItemKind}
use Rattle.smv_resolve.specs.declared.item.ItemKind.TheVariants as item
use Rattle.smv_resolve.specs.Items.{ResolvedItem}
use Rattle.smv_layout.specs.Layout.{items_of}
use Rattle.smv_slots.specs.declared.slot.Slot.{Slot}
use Rattle.smv_slots.specs.Slots.{slots_of}
use Rattle.smv_meaning.specs.Lassos.{Lasso, Holds, Violates}
use Rattle.smv_meaning.specs.Runs.{at_time, is_true}
use Rattle.smv_meaning.specs.Values.{outcome_in}
use Rattle.trace_replay.specs.declared.columns.Column.{Column}
use Rattle.trace_replay.specs.declared.rule.ReplayRule.{ReplayRule}
use Rattle.trace_replay.specs.declared.rule.ReplayRule.TheVariants as rule
use Rattle.trace_replay.specs.declared.rule.Replayed.{Replayed}
use Rattle.trace_replay.specs.declared.rule.Replayed.TheVariants.{Accepted, Rejected}
use Rattle.trace_replay.specs.declared.telling.Told.{Told}
use Rattle.trace_replay.specs.declared.telling.Telling.{Telling}
use Rattle.trace_replay.specs.declared.telling.Telling.TheVariants as telling
use Rattle.trace_replay.specs.declared.trace.Trace.{Trace}
use Rattle.trace_replay.specs.Faultless.{IsFaultlessLasso, is_evaluated, steps_well}
use Rattle.trace_replay.specs.Rows.{bindings_of, given_rows, input_columns, inputs_read, state_columns, states_told, terms_of}
use Rattle.trace_replay.specs.Telling.{FirstFailing}
use Rattle.trace_replay.specs.Tests.{IsEarlier, IsReplay, ShowsBroken, begins, goes_on, state_fits, stays}

-- the trace of a lasso
abbrev pub lasso_trace : Program → Lasso → Trace
lasso_trace p w = record { states = map (bindings_of (terms_of p) (state_columns p)) w.states; inputs = given_rows (terms_of p) (input_columns p) w.inputs; start = Some w.start }

-- how many lines of inputs there are beside so many states: one for each; none without input slots
abbrev pub due_each : List Column → ℕ → ℕ
due_each [] states = 0
due_each (c ∷ cs) states = states

-- the inputs of this number are told as they should be, or need not be; just past those that are due there are none
abbrev pub each_input_fits : Program → Trace → ℕ → Bool
each_input_fits p t i =
    if nat_lt i (due_each (input_columns p) (length t.states)) then is_some (inputs_read p t i)
    else if i == due_each (input_columns p) (length t.states) then nat_le (length t.inputs) i
    else true

-- the values of the inputs of each step, the last of which goes back
abbrev pub each_input_told : Program → Trace → List (List Value)
each_input_told p t = map (λ (i : ℕ). unwrap_or (inputs_read p t i) []) (range_with_len 0 (length t.states))

-- the lasso that a trace tells
abbrev pub lasso_told : Program → Trace → Lasso
lasso_told p t = record { states = states_told p t; inputs = each_input_told p t; start = unwrap_or t.start 0 }

abbrev pub is_justice : ItemKind → Bool
is_justice (item.Constraint asked.Justice) = true
is_justice other = false

-- the JUSTICE constraints, in the order of the items
abbrev pub justices_of : Program → List ResolvedItem
justices_of p = filter (λ (x : ResolvedItem). is_justice x.kind) (items_of p)

-- The tests, each at a number. A test that has no such number is passed.

-- the values of this number are told as they should be
abbrev pub each_value_fits : Program → Trace → ℕ → Bool
each_value_fits p t i = state_fits p t i && each_input_fits p t i

-- there is a step from the last state to the one of this number, and nothing that is asked of it faults
abbrev pub is_loop : Program → List (List Value) → List (List Value) → ℕ → Bool
is_loop p states inputs n =
    nat_lt n (length states) && steps_well p (at_time states (length states - 1)) (at_time inputs (length states - 1)) (at_time states n)

-- the loop is told, and there is a step from the last state to the one at which it begins
abbrev pub goes_back : Program → List (List Value) → List (List Value) → Option ℕ → ℕ → Bool
goes_back p states inputs None i = not (i == 0)
goes_back p states inputs (Some n) i = not (i == n) || is_loop p states inputs n

-- some of these states has it TRUE
abbrev pub is_met : List Slot → List (List Value) → Option ResolvedItem → Bool
is_met slots states None = true
is_met slots states (Some x) = list_any (λ (s : List Value). is_true (outcome_in slots s x.value)) states

-- JUSTICE number i is TRUE in some state of the loop
abbrev pub is_fair : Program → List (List Value) → ℕ → Bool
is_fair p states i = is_met (slots_of p) states (slice_get (justices_of p) i)

-- the formula does not hold at the first time of the lasso, and it faults at no time
abbrev pub IsFalseOn : Program → ResolvedItem → Lasso → Type 0
IsFalseOn p spec w = (Holds p w spec.value 0 → ⊥) × ((i : ℕ) → is_evaluated p spec w.states w.inputs i ≡ true)

-- whether a trace passes a test at a number
abbrev pub LassoPasses : Program → ResolvedItem → Trace → ReplayRule → ℕ → Type 0
LassoPasses p spec t rule.Values i = each_value_fits p t i ≡ true
LassoPasses p spec t rule.First i = begins p (states_told p t) i ≡ true
LassoPasses p spec t rule.Inv i = stays p (states_told p t) i ≡ true
LassoPasses p spec t rule.Step i = goes_on p (states_told p t) (each_input_told p t) i ≡ true
LassoPasses p spec t rule.Loop i = goes_back p (states_told p t) (each_input_told p t) t.start i ≡ true
LassoPasses p spec t rule.Fair i = is_fair p (drop (lasso_told p t).start (states_told p t)) i ≡ true
LassoPasses p spec t rule.Spec i = i ≡ 0 → IsFalseOn p spec (lasso_told p t)

-- this is the first test that fails
pub record LassoFailsFirst (p : Program) (spec : ResolvedItem) (t : Trace) (rule : ReplayRule) (number : ℕ) : Type 0 where
  pub fails : LassoPasses p spec t rule number → ⊥
  pub earlier : (r : ReplayRule) (i : ℕ) → IsEarlier r i rule number → LassoPasses p spec t r i

-- what comes of the tests: each is passed, or this is the first that fails
abbrev pub IsLassoReplay : Program → ResolvedItem → Trace → Replayed → Type 0
IsLassoReplay p spec t Accepted = (r : ReplayRule) (i : ℕ) → LassoPasses p spec t r i
IsLassoReplay p spec t (Rejected rule number) = LassoFailsFirst p spec t rule number

-- the same of a specification of either kind
abbrev pub IsReplayOf : ItemKind → Program → ResolvedItem → Trace → Replayed → Type 0
IsReplayOf (item.Specification claim.Temporal) = IsLassoReplay
IsReplayOf other = IsReplay

-- the trace is that of a lasso that violates the specification, evaluated without a fault
pub record ShowsViolated (p : Program) (spec : ResolvedItem) (t : Trace) : Type 0 where
  pub lasso : Lasso
  pub told : t ≡ lasso_trace p lasso
  pub violates : Violates p spec lasso
  pub faultless : IsFaultlessLasso p spec lasso

-- What is accepted shows that the specification does not hold. A trace is accepted just where it is that of a run that
-- breaks the invariant, or of a lasso that violates the temporal specification, evaluated without a fault.
abbrev pub Shows : ItemKind → Program → ResolvedItem → Trace → Replayed → Type 0
Shows (item.Specification claim.Temporal) p spec t r = (r ≡ Accepted) ↔ ShowsViolated p spec t
Shows other p spec t r = (r ≡ Accepted) ↔ ShowsBroken p spec t

-- What the calls below give.

-- the values are told as they should be, and these are the values
pub record IsLassoTold (p : Program) (t : Trace) (told : Told) : Type 0 where
  pub fit : (i : ℕ) → each_value_fits p t i ≡ true
  pub states : told.states ≡ states_told p t
  pub inputs : told.inputs ≡ each_input_told p t

abbrev pub IsLassoTelling : Program → Trace → Telling → Type 0
IsLassoTelling p t (telling.Unfit n) = FirstFailing (each_value_fits p t) n
IsLassoTelling p t (telling.Fit told) = IsLassoTold p t told

-- the values of the inputs of this number, if they are told as they should be
abbrev pub AreEachInputs : Program → Trace → ℕ → Option (List Value) → Type 0
AreEachInputs p t i None = each_input_fits p t i ≡ false
AreEachInputs p t i (Some u) = (each_input_fits p t i ≡ true) × (u ≡ unwrap_or (inputs_read p t i) [])
