-- One node more.
use Rattle.std.proofs.Common.{◌∙◌, Bool, List, [], ◌∷◌, ◌++◌, sym, ap}
use Rattle.smv_formulas.proofs.Forming.{formed_next, formed_none}
use Rattle.smv_formulas.proofs.Marking.{marks_next, marks_none}
use Rattle.smv_formulas.proofs.formed.formed_of.Goals as goal

pub loop-node-init : goal.loop-node-init
loop-node-init c = record { marks = c.new-marks.ensures.items ∙ marks_none; formed = c.new-formed.ensures.items ∙ formed_none }

pub loop-node-preserved : goal.loop-node-preserved
loop-node-preserved c =
    let nodes = c.args.nodes.now in
    let i = c.loop-node.node-index in
    record {
      marks =
          c.in_ok-push.ensures.items
          ∙ ap (λ (l : List Bool). l ++ c.mark_by-mark.result ∷ []) (sym c.as_slice-in-loop-node-2.ensures.value)
          ∙ marks_next nodes c.as_slice-in-loop-node-2.result.now i _ c.mark_by-mark.result c.loop-node-test.true
          (c.as_slice-in-loop-node-2.ensures.value ∙ c.loop-node.invariant.marks) c.mark_by-mark.ensures;
      formed =
          c.in_ok-push-2.ensures.items
          ∙ ap (λ (l : List Bool). l ++ c.formed_by-is.result ∷ []) (sym c.as_slice-in-loop-node.ensures.value)
          ∙ formed_next nodes c.as_slice.result.now c.as_slice-in-loop-node.result.now i _ c.formed_by-is.result c.loop-node-test.true
          (c.as_slice.ensures.value ∙ c.loop-node.invariant.marks) (c.as_slice-in-loop-node.ensures.value ∙ c.loop-node.invariant.formed) c.formed_by-is.ensures;
    }
