-- The integers of no nodes, and of one node more.
use Rattle.std.proofs.Common.{take, ◌∙◌}
use Rattle.smv_resolve.specs.Resolved.{parts_of}
use Rattle.smv_layout.proofs.Indexing.{index_more}
use Rattle.smv_layout.proofs.indices.indices_of.Goals as goal

pub loop-node-init : goal.loop-node-init
unfolding parts_of
loop-node-init c = c.new-table.ensures.items

pub loop-node-preserved : goal.loop-node-preserved
loop-node-preserved c =
    index_more c.args.nodes.now c.loop-node.node-index _ c.loop-node.table.items c.push.new.self.items c.index_by_node-index.result c.loop-node-test.true c.loop-node.invariant
    (λ parts told. c.index_by_node-index.ensures parts (c.as_slice.ensures.value ∙ told)) c.in_ok-push.ensures.items
