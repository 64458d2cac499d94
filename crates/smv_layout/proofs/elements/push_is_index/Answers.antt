-- The condition over the index.
use Rattle.smv_layout.specs.Nodes.{subscript_by}
use Rattle.smv_layout.proofs.Places.{is_index_by}
use Rattle.smv_layout.proofs.Standing.{AreNodes_one, IsNode_same}
use Rattle.smv_layout.proofs.elements.push_is_index.Goals as goal

pub returns-clause-node : goal.returns-clause-node
returns-clause-node c = λ z e.
    is_index_by c.push_equal.new.nodes c.in_ok-n.n (subscript_by c.args.nodes.now c.args.x) c.args.v z e
    (c.in_ok-n.ensures.node _ (c.in_ok-index.ensures.node _ (AreNodes_one c.args.nodes.now c.args.x.node _ (IsNode_same c.args.nodes.now c.args.x.node c.requires))))
