-- Where temporal operators stand: of each node, by the nodes before it.
use Rattle.std.specs.Prelude.{ℕ, Bool, false, ◌||◌, List, map, slice_index_or}
use Rattle.std.specs.List.{list_any}
use Rattle.smv_resolve.specs.declared.node.ExprNode.{ExprNode}
use Rattle.smv_resolve.specs.declared.node.ExprNode.TheVariants as node
use Rattle.smv_resolve.specs.Resolved.{last_of, parts_of}
use Rattle.smv_meaning.specs.Formulas.{has_temporal, is_temporal}

-- whether a temporal operator stands in the part of each node
abbrev pub marks_of : List ExprNode → List Bool
marks_of nodes = map has_temporal (parts_of nodes)

-- the mark of the node of this number
abbrev pub mark_at : List Bool → ℕ → Bool
mark_at marks k = slice_index_or marks k false

-- the mark of a node, where these are those of the nodes before it
abbrev pub mark_by : List Bool → ExprNode → Bool
mark_by marks (node.Constant place b) = false
mark_by marks (node.Slot place n) = false
mark_by marks (node.Whole place i) = false
mark_by marks (node.Named place naming a) = mark_at marks a
mark_by marks (node.Next place a) = mark_at marks a
mark_by marks (node.Operand a) = mark_at marks a
mark_by marks (node.Apply place o count) = is_temporal o || list_any (λ (mark : Bool). mark) (last_of count marks)
mark_by marks (node.Link place o a b) = is_temporal o || (mark_at marks a || mark_at marks b)
