-- Which nodes read an input, each by the nodes before it.
use Rattle.std.specs.Prelude.{ℕ, Bool, false, ◌||◌, List, map, Option, slice_get, slice_index_or}
use Rattle.std.specs.List.{list_any}
use Rattle.smv_slots.specs.declared.slot.Slot.{Slot}
use Rattle.smv_resolve.specs.declared.node.ExprNode.{ExprNode}
use Rattle.smv_resolve.specs.declared.node.ExprNode.TheVariants as node
use Rattle.smv_resolve.specs.Resolved.{last_of, parts_of}
use Rattle.bit_formula.specs.declared.reading.Asked.{Asked}
use Rattle.bit_formula.specs.declared.reading.Asked.TheVariants as asked
use Rattle.bit_formula.specs.Reading.{is_some_input, is_this_input, reads_slot}

-- the slots that are asked for
abbrev pub is_asked : Asked → Option Slot → Bool
is_asked asked.Every = is_some_input
is_asked (asked.One k) = is_this_input k

-- whether the part of each node reads such a slot
abbrev pub marks_of : (Option Slot → Bool) → List Slot → List ExprNode → List Bool
marks_of test slots nodes = map (reads_slot test slots) (parts_of nodes)

-- the mark of the node of this number
abbrev pub mark_at : List Bool → ℕ → Bool
mark_at marks k = slice_index_or marks k false

-- the mark of a node, where these are those of the nodes before it
abbrev pub mark_by : (Option Slot → Bool) → List Slot → List Bool → ExprNode → Bool
mark_by test slots marks (node.Constant place b) = false
mark_by test slots marks (node.Slot place n) = test (slice_get slots n)
mark_by test slots marks (node.Whole place i) = false
mark_by test slots marks (node.Named place naming a) = mark_at marks a
mark_by test slots marks (node.Next place a) = false
mark_by test slots marks (node.Operand a) = mark_at marks a
mark_by test slots marks (node.Apply place o count) = list_any (λ (mark : Bool). mark) (last_of count marks)
mark_by test slots marks (node.Link place o a b) = mark_at marks a || mark_at marks b
