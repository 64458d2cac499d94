-- One node more.
use Rattle.std.proofs.Common.{◌∙◌, List, [], ◌∷◌, ◌++◌, sym, ap}
use Rattle.smv_meaning.specs.declared.outcome.Evaluation.{Evaluation}
use Rattle.smv_meaning.proofs.Tables.{outcomes_none, outcomes_next}
use Rattle.smv_meaning.proofs.evaluation.nowhere.Goals as goal

pub loop-node-init : goal.loop-node-init
loop-node-init c = c.new-made.ensures.items ∙ outcomes_none c.args.slots.now [] [] []

pub loop-node-preserved : goal.loop-node-preserved
loop-node-preserved c =
    let slots = c.args.slots.now in
    c.in_ok-push.ensures.items
    ∙ ap (λ (l : List Evaluation). l ++ c.in_ok-outcome.outcome ∷ []) (sym c.as_slice.ensures.value)
    ∙ outcomes_next slots [] [] [] c.args.nodes.now c.as_slice.result.now c.as_slice-in-loop-node.result.now c.loop-node.node-index _ c.in_ok-outcome.outcome
    c.loop-node-test.true (c.as_slice.ensures.value ∙ c.loop-node.invariant) (c.as_slice-in-loop-node.ensures.value ∙ c.loop-node.invariant) c.in_ok-outcome.ensures
