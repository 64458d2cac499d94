-- States, initial states, steps and runs of a program, and what breaks an invariant (NuSMV 2.6 User Manual, 2.3,
-- 2.4.2).
use Rattle.std.specs.Prelude.{◌≡◌, ℕ, ◌+◌, ◌<◌, Bool, true, false, not, ◌&&◌, ◌||◌, ◌==◌, List, [], length, filter, Option, None, Some, IsTrue, slice_get, slice_index_or, unwrap_or, if◌then◌else◌}
use Rattle.std.specs.List.{list_all, list_any, zip}
use Rattle.std.specs.Option.{is_some}
use Rattle.smv_tree.specs.declared.tree.Program.{Program}
use Rattle.smv_tree.specs.declared.tree.AssignmentKind.TheVariants as side
use Rattle.smv_tree.specs.declared.tree.ConstraintKind.TheVariants as asked
use Rattle.smv_tree.specs.declared.tree.SpecificationKind.TheVariants as claim
use Rattle.smv_tree.specs.declared.tree.VariableKind.{VariableKind}
use Rattle.smv_tree.specs.declared.tree.VariableKind.TheVariants as sort
use Rattle.smv_value.specs.declared.value.Value.{Value}
use Rattle.smv_value.specs.declared.value.Value.TheVariants as value
use Rattle.smv_value.specs.Results.{same}
use Rattle.smv_resolve.specs.declared.item.ItemKind.{ItemKind}
use Rattle.smv_resolve.specs.declared.item.ItemKind.TheVariants as item
use Rattle.smv_slots.specs.declared.slot.Slot.{Slot}
use Rattle.smv_resolve.specs.Items.{ResolvedItem}
use Rattle.smv_layout.specs.Layout.{items_of}
use Rattle.smv_resolve.specs.Resolved.{Resolved}
use Rattle.smv_slots.specs.Slots.{slots_of, is_input, types_of}
use Rattle.value_types.specs.declared.value_type.ValueType.{ValueType}
use Rattle.value_types.specs.Types.{is_of_type}
use Rattle.smv_meaning.specs.declared.outcome.Evaluation.{Evaluation}
use Rattle.smv_meaning.specs.declared.outcome.Evaluation.TheVariants.{Fault, Nothing, Values}
use Rattle.smv_meaning.specs.Formulas.{is_known, is_known_formula}
use Rattle.smv_meaning.specs.Outcomes.{one, truth, value_in}
use Rattle.smv_meaning.specs.Values.{outcome, outcome_in}

-- the value is one of the type; where there is no type it is none (manual 2.1, Types Overview)
abbrev pub in_type : Option ValueType → Value → Bool
in_type (Some t) v = is_of_type v t
in_type None v = false

-- the slots of a state, and the input slots
abbrev pub state_slots : List Slot → List Slot
state_slots slots = filter (λ (slot : Slot). not (is_input slot.kind)) slots

abbrev pub input_slots : List Slot → List Slot
input_slots slots = filter (λ (slot : Slot). is_input slot.kind) slots

-- one value of its type for each of these slots, where these are the types of all slots
abbrev pub fits : List ValueType → List Slot → List Value → Bool
fits types slots s =
    (length slots == length s) && list_all (λ (pair : Slot × Value). in_type (slice_get types pair.0.declared) pair.1) (zip slots s)

-- the value is among those of the expression; what faults has none
abbrev pub is_among : Option Value → Evaluation → Bool
is_among (Some v) (Values ws) = list_any (same v) ws
is_among v e = false

-- the variable has a value of the expression
abbrev pub takes : Evaluation → Evaluation → Bool
takes x e = is_among (value_in x) e

-- the outcome of what is assigned, in a state; nothing has none
abbrev pub outcome_of_target : List Slot → List Value → Option Resolved → Evaluation
outcome_of_target slots s None = Nothing
outcome_of_target slots s (Some target) = outcome_in slots s target

-- the outcome is TRUE; a fault is not
abbrev pub is_true : Evaluation → Bool
is_true o = unwrap_or (truth o) false

-- What an item asks of an initial state, by the outcomes of what it assigns and of its value there: `init(x) := e`,
-- `x := e` (manual 2.3.8), INIT (2.3.5) and INVAR (2.3.6).
abbrev pub asks_first : Evaluation → Evaluation → ItemKind → Bool
asks_first x e (item.Assignment side.Init) = takes x e
asks_first x e (item.Assignment side.Current) = takes x e
asks_first x e (item.Assignment side.Next) = true
asks_first x e (item.Constraint asked.Init) = is_true e
asks_first x e (item.Constraint asked.Invar) = is_true e
asks_first x e (item.Constraint asked.Trans) = true
asks_first x e (item.Constraint asked.Justice) = true
asks_first x e (item.Specification kind) = true

-- What an item asks of both states of a step, by its outcomes there: `x := e` and INVAR.
abbrev pub asks_always : Evaluation → Evaluation → ItemKind → Bool
asks_always x e (item.Assignment side.Init) = true
asks_always x e (item.Assignment side.Current) = takes x e
asks_always x e (item.Assignment side.Next) = true
asks_always x e (item.Constraint asked.Init) = true
asks_always x e (item.Constraint asked.Invar) = is_true e
asks_always x e (item.Constraint asked.Trans) = true
asks_always x e (item.Constraint asked.Justice) = true
asks_always x e (item.Specification kind) = true

-- What an item asks of a step, by the outcome of what it assigns in the next state and of its value at the step:
-- `next(x) := e` gives x in the next state the value of e at the step (manual 2.3.8), and TRANS (2.3.7).
abbrev pub asks_step : Evaluation → Evaluation → ItemKind → Bool
asks_step x e (item.Assignment side.Init) = true
asks_step x e (item.Assignment side.Current) = true
asks_step x e (item.Assignment side.Next) = takes x e
asks_step x e (item.Constraint asked.Init) = true
asks_step x e (item.Constraint asked.Invar) = true
asks_step x e (item.Constraint asked.Trans) = is_true e
asks_step x e (item.Constraint asked.Justice) = true
asks_step x e (item.Specification kind) = true

-- the state has what the item asks of an initial state
abbrev pub allows_first : List Slot → List Value → ResolvedItem → Bool
allows_first slots s x = asks_first (outcome_of_target slots s x.target) (outcome_in slots s x.value) x.kind

-- the state has what the item asks of both states of a step
abbrev pub allows_always : List Slot → List Value → ResolvedItem → Bool
allows_always slots s x = asks_always (outcome_of_target slots s x.target) (outcome_in slots s x.value) x.kind

-- the step from s to t with the inputs u has what the item asks of a step
abbrev pub allows_step : List Slot → List Value → List Value → List Value → ResolvedItem → Bool
allows_step slots s u t x = asks_step (outcome_of_target slots t x.target) (outcome slots s u t x.value) x.kind

-- the state has what the invariants of the program ask of each state
abbrev pub meets_invariants : Program → List Value → Bool
meets_invariants p s = list_all (allows_always (slots_of p) s) (items_of p)

-- a variable of FROZENVAR
abbrev pub is_frozen : VariableKind → Bool
is_frozen sort.Frozen = true
is_frozen other = false

-- a slot that is frozen has the same value in both states (manual 2.3.1, Frozen Variables)
abbrev pub keeps : Slot → Value → Value → Bool
keeps slot v w = not (is_frozen slot.kind) || same v w

-- each frozen slot keeps its value
abbrev pub keeps_frozen : List Slot → List Value → List Value → Bool
keeps_frozen slots s t = list_all (λ (x : (Slot × Value) × Value). keeps x.0.0 x.0.1 x.1) (zip (zip (state_slots slots) s) t)

-- values of their types for the slots of a state
abbrev pub is_state : Program → List Value → Bool
is_state p s = fits (types_of p) (state_slots (slots_of p)) s

-- values of their types for the input slots
abbrev pub are_inputs : Program → List Value → Bool
are_inputs p u = fits (types_of p) (input_slots (slots_of p)) u

-- a state with what the program asks of an initial one
abbrev pub is_first_state : Program → List Value → Bool
is_first_state p s = is_state p s && list_all (allows_first (slots_of p) s) (items_of p)

-- from a state to the next with these inputs, with what the program asks of a step and of both its states
abbrev pub is_step : Program → List Value → List Value → List Value → Bool
is_step p s u t =
    (is_state p s && are_inputs p u && is_state p t) && keeps_frozen (slots_of p) s t
    && list_all (allows_step (slots_of p) s u t) (items_of p) && (meets_invariants p s && meets_invariants p t)

-- an initial state of the program
abbrev pub IsFirstState : Program → List Value → Type 0
IsFirstState p s = IsTrue (is_first_state p s)

-- a step of the program with these inputs, from a state to the next
abbrev pub IsStep : Program → List Value → List Value → List Value → Type 0
IsStep p s u t = IsTrue (is_step p s u t)

-- the i-th of these states or inputs
abbrev pub at_time : List (List Value) → ℕ → List Value
at_time values i = slice_index_or values i []

-- a run of any length: an initial state, and then steps, each with its inputs
pub record IsRun (p : Program) (states inputs : List (List Value)) : Type 0 where
  pub long : length states ≡ length inputs + 1
  pub first : IsFirstState p (at_time states 0)
  pub steps : (i : ℕ) → i < length inputs → IsStep p (at_time states i) (at_time inputs i) (at_time states (i + 1))

-- one value
abbrev pub is_single : Evaluation → Bool
is_single o = is_some (value_in o)

-- values or a fault
abbrev pub is_given : Evaluation → Bool
is_given (Values vs) = true
is_given (Fault rule place) = true
is_given Nothing = false

-- an item of this kind speaks of a step, and not of a state
abbrev pub speaks_of_step : ItemKind → Bool
speaks_of_step (item.Assignment side.Next) = true
speaks_of_step (item.Constraint asked.Trans) = true
speaks_of_step other = false

-- the outcome of the value of an item of this kind: in the state s, or in the step from it with the inputs u to the
-- state t
abbrev pub item_outcome : List Slot → List Value → List Value → List Value → Resolved → ItemKind → Evaluation
item_outcome slots s u t e kind = if speaks_of_step kind then outcome slots s u t e else outcome_in slots s e

-- The variable that an item assigns has one value in a state, and its right side has values or faults. What is asked
-- for or claimed is TRUE or FALSE or faults; so are the parts of a temporal formula.
abbrev pub is_known_by : List Slot → List Value → List Value → List Value → Option Resolved → Resolved → ItemKind → Bool
is_known_by slots s u t target e (item.Assignment which) =
    is_single (outcome_of_target slots s target) && is_given (item_outcome slots s u t e (item.Assignment which))
is_known_by slots s u t target e (item.Constraint which) = is_known (item_outcome slots s u t e (item.Constraint which))
is_known_by slots s u t target e (item.Specification claim.Invariant) = is_known (outcome_in slots s e)
is_known_by slots s u t target e (item.Specification claim.Temporal) = is_known_formula slots s u e

-- the same of an item
abbrev pub is_known_item : List Slot → List Value → List Value → List Value → ResolvedItem → Bool
is_known_item slots s u t x = is_known_by slots s u t x.target x.value x.kind

-- Each item of the program is so in all states and steps of the declared types, reached or not.
abbrev pub AllKnown : Program → Type 0
AllKnown p = (s u t : List Value) → is_state p s ≡ true → are_inputs p u ≡ true → is_state p t ≡ true →
    list_all (is_known_item (slots_of p) s u t) (items_of p) ≡ true

-- a specification
abbrev pub is_claim : ItemKind → Bool
is_claim (item.Specification kind) = true
is_claim other = false

-- the specifications of a program, in the order of its items
abbrev pub specifications_of : Program → List ResolvedItem
specifications_of p = filter (λ (x : ResolvedItem). is_claim x.kind) (items_of p)

-- the run ends in a state in which the specification is FALSE (manual 2.4.2, Invariant Specifications)
pub record Breaks (p : Program) (spec : ResolvedItem) (states inputs : List (List Value)) : Type 0 where
  pub run : IsRun p states inputs
  pub broken : outcome_in (slots_of p) (at_time states (length inputs)) spec.value ≡ one (value.Bool false)
