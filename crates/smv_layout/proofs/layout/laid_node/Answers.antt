-- The entry of the number stands for the node.
use Rattle.std.proofs.Common.{List, ap, ◌∙◌}
use Rattle.smv_layout.specs.declared.laid.LaidNode.{LaidNode}
use Rattle.smv_layout.specs.Layout.{value_of}
use Rattle.smv_layout.specs.Nodes.{laid_at}
use Rattle.smv_layout.proofs.Relaying.{relaid}
use Rattle.smv_layout.proofs.layout.laid_node.Goals as goal

pub returns : goal.returns
returns c = λ vs from are.
    relaid vs from c.args.to.now.nodes c.args.to.now.entries.items c.args.k c.value_at.result are
    (c.value_at.ensures ∙ ap (λ (xs : List LaidNode). value_of (laid_at c.args.to.now.nodes xs c.args.k)) c.as_slice.ensures.value)
