-- The node so far is the slot that the first is.
use Rattle.std.proofs.Common.{◌≡◌}
use Rattle.smv_resolve.specs.Resolved.{part_of}
use Rattle.smv_flat.specs.Assignments.{assigned_slot}
use Rattle.smv_flat.proofs.assigned.assigned_slot.Given as goal

abbrev pub invariant-loop-n : goal.invariant-loop-n
invariant-loop-n l = assigned_slot l.slots (part_of l.nodes l.here) ≡ assigned_slot l.slots (part_of l.nodes l.k)

abbrev pub decreases-loop-n : goal.decreases-loop-n
decreases-loop-n l = l.here
