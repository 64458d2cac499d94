-- One mark more.
use Rattle.std.proofs.Common.{◌∙◌, Bool, List, [], ◌∷◌, ◌++◌, sym, ap}
use Rattle.bit_formula.specs.Marks.{is_asked}
use Rattle.bit_formula.proofs.Marking.{marks_next, marks_none}
use Rattle.bit_formula.proofs.reading.marks_of.Goals as goal

pub loop-node-init : goal.loop-node-init
loop-node-init c = c.new-marks.ensures.items ∙ marks_none (is_asked c.args.asked) c.args.slots.now

pub loop-node-preserved : goal.loop-node-preserved
loop-node-preserved c =
    c.in_ok-push.ensures.items
    ∙ ap (λ (l : List Bool). l ++ c.mark_by-mark.result ∷ []) (sym c.as_slice.ensures.value)
    ∙ marks_next (is_asked c.args.asked) c.args.slots.now c.args.nodes.now c.as_slice.result.now c.loop-node.node-index _ c.mark_by-mark.result c.loop-node-test.true
    (c.as_slice.ensures.value ∙ c.loop-node.invariant) c.mark_by-mark.ensures
