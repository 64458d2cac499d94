-- One node more.
use Rattle.std.proofs.Common.{◌∙◌, ℕ, List, Option, [], ◌∷◌, ◌++◌, sym, ap}
use Rattle.smv_meaning.specs.Faults.{slot_assigned}
use Rattle.smv_meaning.proofs.FaultTables.{slot_next, table_none}
use Rattle.trace_replay.proofs.faultless.slots_assigned.Goals as goal

pub loop-node-init : goal.loop-node-init
loop-node-init c = c.new-made.ensures.items ∙ table_none slot_assigned

pub loop-node-preserved : goal.loop-node-preserved
loop-node-preserved c =
    c.in_ok-push.ensures.items
    ∙ ap (λ (l : List (Option ℕ)). l ++ c.slot_by_node-slot.result ∷ []) (sym c.as_slice.ensures.value)
    ∙ slot_next c.args.nodes.now c.loop-node.node-index _ c.as_slice.result.now c.slot_by_node-slot.result c.loop-node-test.true
    (c.as_slice.ensures.value ∙ c.loop-node.invariant) c.slot_by_node-slot.ensures
