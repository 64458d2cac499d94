-- The slots of the nodes so far.
use Rattle.std.proofs.Common.{◌≡◌, map, take}
use Rattle.smv_resolve.specs.Resolved.{parts_of}
use Rattle.smv_meaning.specs.Faults.{slot_assigned}
use Rattle.trace_replay.proofs.faultless.slots_assigned.Given as goal

abbrev pub invariant-loop-node : goal.invariant-loop-node
invariant-loop-node l = l.made.items ≡ map slot_assigned (parts_of (take l.node-index l.nodes))
