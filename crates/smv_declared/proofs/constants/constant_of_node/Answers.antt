-- The constant that is read is that of the node.
use Rattle.std.proofs.Common.{◌∙◌}
use Rattle.smv_resolve.specs.Resolved.{parts_of}
use Rattle.smv_declared.proofs.Found.{found_at, told_as}
use Rattle.smv_declared.proofs.constants.constant_of_node.Goals as goal

pub returns : goal.returns
returns c =
    told_as c.copy_at.result _ _ c.copy_at.ensures (found_at (parts_of c.args.nodes.now) _ c.args.root (c.as_slice.ensures.value ∙ c.in_ok-table.ensures))
