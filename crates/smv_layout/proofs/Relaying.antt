-- Items and expressions over nodes that are laid out.
use Rattle.std.proofs.Common.{◌≡◌, ℕ, List, map, Option, Some, None, refl, ap, ◌∙◌}
use Rattle.smv_resolve.specs.declared.node.ExprNode.{ExprNode}
use Rattle.smv_resolve.specs.Items.{target_by}
use Rattle.smv_resolve.specs.Resolved.{Resolved, part_of, parts_of}
use Rattle.smv_declared.specs.declared.variable_type.VariableType.{VariableType}
use Rattle.smv_layout.specs.declared.laid.LaidNode.{LaidNode}
use Rattle.smv_layout.specs.Layout.{Laid, laid, laid_target, laid_value, value_of}
use Rattle.smv_layout.specs.Nodes.{AreLaid, laid_at}
use Rattle.smv_layout.proofs.Laying.{laid_found}

-- the node of what stands for a node
pub relaid : (vs : List VariableType) (from to : List ExprNode) (entries : List LaidNode) (k n : ℕ) → AreLaid to entries (map (laid vs) (parts_of from)) → part_of to n ≡ value_of (laid_at to entries k) →
    part_of to n ≡ laid_value vs (part_of from k)
unfolding laid_value
relaid vs from to entries k n a e = e ∙ ap value_of (laid_found vs to entries (parts_of from) k a.are)
