-- The outcomes of the nodes of a list, each by those of the nodes before it, and what items over these nodes ask.
use Rattle.std.specs.Prelude.{ℕ, Bool, List, [], ◌∷◌, map, Option, None, Some, slice_get, slice_index_or, if◌then◌else◌}
use Rattle.std.specs.List.{list_all}
use Rattle.std.specs.Option.{option_or}
use Rattle.smv_tree.specs.declared.place.Place.{Place}
use Rattle.smv_value.specs.declared.value.FaultRule.{FaultRule}
use Rattle.smv_value.specs.declared.value.Value.{Value}
use Rattle.smv_resolve.specs.declared.item.Item.{Item}
use Rattle.smv_resolve.specs.declared.node.ExprNode.{ExprNode}
use Rattle.smv_resolve.specs.declared.node.ExprNode.TheVariants as node
use Rattle.smv_slots.specs.declared.slot.Slot.{Slot}
use Rattle.smv_resolve.specs.Resolved.{last_of, parts_of}
use Rattle.smv_slots.specs.Slots.{item_of}
use Rattle.smv_meaning.specs.declared.outcome.Evaluation.{Evaluation}
use Rattle.smv_meaning.specs.declared.outcome.Evaluation.TheVariants.{Nothing}
use Rattle.smv_meaning.specs.Formulas.{is_over_formulas}
use Rattle.smv_meaning.specs.Outcomes.{applied, one, valued}
use Rattle.smv_meaning.specs.Values.{outcome}
use Rattle.smv_meaning.specs.Runs.{asks_first, asks_always, asks_step}

-- the outcomes of nodes in the state s, with the inputs u and the next state t
abbrev pub outcomes_of : List Slot → List Value → List Value → List Value → List ExprNode → List Evaluation
outcomes_of slots s u t nodes = map (outcome slots s u t) (parts_of nodes)

-- what is there, or nothing
abbrev pub seen : Option Evaluation → Evaluation
seen None = Nothing
seen (Some o) = o

-- the outcome of the node of this number
abbrev pub outcome_at : List Evaluation → ℕ → Evaluation
outcome_at outcomes k = seen (slice_get outcomes k)

-- the outcome of what an item assigns, if it assigns
abbrev pub target_at : List Evaluation → Option ℕ → Evaluation
target_at outcomes None = Nothing
target_at outcomes (Some k) = outcome_at outcomes k

-- the outcome of a node, where these are the outcomes of the nodes before it, here and in the next state
abbrev pub outcome_by : List Slot → List Value → List Value → List Evaluation → List Evaluation → ExprNode → Evaluation
outcome_by slots s u here later (node.Constant place v) = one v
outcome_by slots s u here later (node.Slot place n) = valued (item_of slots s u n)
outcome_by slots s u here later (node.Whole place i) = Nothing
outcome_by slots s u here later (node.Named place naming a) = outcome_at here a
outcome_by slots s u here later (node.Next place a) = outcome_at later a
outcome_by slots s u here later (node.Operand a) = outcome_at here a
outcome_by slots s u here later (node.Apply place o count) = applied o place (last_of count here)
outcome_by slots s u here later (node.Link place o a b) = applied o place (outcome_at here a ∷ outcome_at here b ∷ [])

-- what items ask of an initial state, where the nodes have these outcomes
abbrev pub first_allowed : List Evaluation → List Item → Bool
first_allowed here items = list_all (λ (x : Item). asks_first (target_at here x.target) (outcome_at here x.value) x.kind) items

-- what they ask of both states of a step
abbrev pub always_allowed : List Evaluation → List Item → Bool
always_allowed here items = list_all (λ (x : Item). asks_always (target_at here x.target) (outcome_at here x.value) x.kind) items

-- what they ask of a step, where the nodes have these outcomes in the step and in the next state
abbrev pub step_allowed : List Evaluation → List Evaluation → List Item → Bool
step_allowed here later items = list_all (λ (x : Item). asks_step (target_at later x.target) (outcome_at here x.value) x.kind) items

-- faults of formulas and slots that are assigned

-- the fault of the node of this number, if it has one
abbrev pub fault_at : List (Option (FaultRule × Place)) → ℕ → Option (FaultRule × Place)
fault_at faults k = slice_index_or faults k None

-- the first fault that is there
abbrev pub first_fault : List (Option (FaultRule × Place)) → Option (FaultRule × Place)
first_fault [] = None
first_fault (f ∷ fs) = option_or f (first_fault fs)

-- the first fault of the parts of a node, where these are those of the nodes before it, and `mine` is that of its own
-- outcome
abbrev pub fault_by_node : Option (FaultRule × Place) → List (Option (FaultRule × Place)) → ExprNode → Option (FaultRule × Place)
fault_by_node mine faults (node.Constant place v) = None
fault_by_node mine faults (node.Slot place n) = None
fault_by_node mine faults (node.Whole place i) = None
fault_by_node mine faults (node.Named place naming a) = mine
fault_by_node mine faults (node.Next place a) = mine
fault_by_node mine faults (node.Operand a) = fault_at faults a
fault_by_node mine faults (node.Apply place o count) = if is_over_formulas o then first_fault (last_of count faults) else mine
fault_by_node mine faults (node.Link place o a b) =
    if is_over_formulas o then first_fault (fault_at faults a ∷ fault_at faults b ∷ []) else mine

-- the slot that the node of this number is, if it is one
abbrev pub slot_at : List (Option ℕ) → ℕ → Option ℕ
slot_at slots k = slice_index_or slots k None

-- the slot that a node is, where these are those that the nodes before it are
abbrev pub slot_by_node : List (Option ℕ) → ExprNode → Option ℕ
slot_by_node slots (node.Slot place n) = Some n
slot_by_node slots (node.Named place naming a) = slot_at slots a
slot_by_node slots (node.Operand a) = slot_at slots a
slot_by_node slots other = None
