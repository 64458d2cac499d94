-- Which items fault, by the outcomes of nodes and by the slots that nodes are.
use Rattle.std.specs.Prelude.{ℕ, Bool, not, ◌||◌, List, Option, None, Some, option_and_then, slice_get}
use Rattle.std.specs.List.{list_all}
use Rattle.std.specs.Option.{is_none}
use Rattle.smv_resolve.specs.declared.item.Item.{Item}
use Rattle.smv_meaning.specs.declared.outcome.Evaluation.{Evaluation}
use Rattle.smv_meaning.specs.Faults.{fault_of_value}
use Rattle.smv_meaning.specs.Tables.{outcome_at, slot_at}
use Rattle.value_types.specs.declared.value_type.ValueType.{ValueType}
use Rattle.trace_replay.specs.declared.faultless.Asked.{Asked}
use Rattle.trace_replay.specs.Faultless.{is_asking}

-- the type of the variable that is assigned, if one is, where nodes are these slots
abbrev pub type_by : List ValueType → List (Option ℕ) → Option ℕ → Option ValueType
type_by types slots None = None
type_by types slots (Some k) = option_and_then (slice_get types) (slot_at slots k)

-- the value of an item does not fault, where nodes have these outcomes
abbrev pub is_faultless_by : List ValueType → List (Option ℕ) → List Evaluation → Item → Bool
is_faultless_by types slots here x = is_none (fault_of_value (type_by types slots x.target) x.begins (outcome_at here x.value))

-- nor does that of any item that asks something
abbrev pub all_faultless_by : Asked → List ValueType → List (Option ℕ) → List Evaluation → List Item → Bool
all_faultless_by asked types slots here items = list_all (λ (x : Item). not (is_asking asked x.kind) || is_faultless_by types slots here x) items
