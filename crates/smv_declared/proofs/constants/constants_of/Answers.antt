-- The constants of no nodes, and of one node more.
use Rattle.std.proofs.Common.{◌∙◌}
use Rattle.smv_resolve.specs.Resolved.{parts_of}
use Rattle.smv_declared.proofs.Found.{one_more}
use Rattle.smv_declared.proofs.constants.constants_of.Goals as goal

pub loop-node-init : goal.loop-node-init
unfolding parts_of
loop-node-init c = c.new-table.ensures.items

pub loop-node-preserved : goal.loop-node-preserved
loop-node-preserved c =
    one_more c.args.nodes.now c.loop-node.node-index _ c.loop-node.table.items c.push.new.self.items c.in_ok-constant.constant c.loop-node-test.true c.loop-node.invariant
    (λ parts told. c.in_ok-constant.ensures parts (c.as_slice.ensures.value ∙ told)) c.in_ok-push.ensures.items
