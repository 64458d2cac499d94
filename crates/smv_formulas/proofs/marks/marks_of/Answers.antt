-- One mark more.
use Rattle.std.proofs.Common.{◌∙◌, Bool, List, [], ◌∷◌, ◌++◌, sym, ap}
use Rattle.smv_formulas.proofs.Marking.{marks_next, marks_none}
use Rattle.smv_formulas.proofs.marks.marks_of.Goals as goal

pub loop-node-init : goal.loop-node-init
loop-node-init c = c.new-marks.ensures.items ∙ marks_none

pub loop-node-preserved : goal.loop-node-preserved
loop-node-preserved c =
    c.in_ok-push.ensures.items
    ∙ ap (λ (l : List Bool). l ++ c.mark_by-mark.result ∷ []) (sym c.as_slice.ensures.value)
    ∙ marks_next c.args.nodes.now c.as_slice.result.now c.loop-node.node-index _ c.mark_by-mark.result c.loop-node-test.true
    (c.as_slice.ensures.value ∙ c.loop-node.invariant) c.mark_by-mark.ensures
