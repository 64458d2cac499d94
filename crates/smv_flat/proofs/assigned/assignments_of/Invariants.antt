-- The assignments of the items so far.
use Rattle.std.proofs.Common.{◌≡◌, map, take}
use Rattle.std.specs.List.{flat_map}
use Rattle.smv_resolve.specs.Items.{item_by}
use Rattle.smv_flat.specs.Assignments.{assignment_in}
use Rattle.smv_flat.specs.Graph.{assigned_by}
use Rattle.smv_flat.proofs.assigned.assignments_of.Given as goal

abbrev pub invariant-loop-item : goal.invariant-loop-item
invariant-loop-item l = map (assigned_by l.nodes) l.all.items ≡ flat_map (assignment_in l.slots) (map (item_by l.nodes) (take l.item-index l.item-items))
