-- What no nodes read, and one node more.
use Rattle.smv_resolve.specs.Resolved.{parts_of}
use Rattle.std.proofs.Common.{◌∙◌}
use Rattle.smv_flat.proofs.Quiet.{one_more}
use Rattle.smv_flat.proofs.reads.reads_of.Goals as goal

pub loop-node-init : goal.loop-node-init
unfolding parts_of
loop-node-init c = c.new-table.ensures.items

pub loop-node-preserved : goal.loop-node-preserved
loop-node-preserved c =
    one_more c.args.nodes.now c.loop-node.node-index _ c.loop-node.table.items c.push.new.self.items c.reads_of_node-reads.result c.loop-node-test.true c.loop-node.invariant
    (λ parts told. c.reads_of_node-reads.ensures parts (c.as_slice.ensures.value ∙ told)) c.in_ok-push.ensures.items
