-- The states that are left.
use Rattle.std.proofs.Common.{◌≡◌, List, drop}
use Rattle.std.specs.List.{list_any}
use Rattle.smv_value.specs.declared.value.Value.{Value}
use Rattle.smv_resolve.specs.Items.{item_by}
use Rattle.smv_slots.specs.Slots.{slots_of}
use Rattle.smv_meaning.specs.Runs.{is_true}
use Rattle.smv_meaning.specs.Values.{outcome_in}
use Rattle.trace_replay.proofs.lassos.is_met.Given as goal

abbrev pub invariant-loop-state : goal.invariant-loop-state
invariant-loop-state l =
    list_any (λ (s : List Value). is_true (outcome_in (slots_of l.typed.scope.program) s (item_by l.typed.nodes l.item).value)) (drop l.state-index l.states)
    ≡ list_any (λ (s : List Value). is_true (outcome_in (slots_of l.typed.scope.program) s (item_by l.typed.nodes l.item).value)) l.states
