-- What the nodes so far read.
use Rattle.std.proofs.Common.{◌≡◌, map, take}
use Rattle.smv_resolve.specs.Resolved.{parts_of}
use Rattle.smv_flat.specs.Reads.{reads_of}
use Rattle.smv_flat.proofs.reads.reads_of.Given as goal

abbrev pub invariant-loop-node : goal.invariant-loop-node
invariant-loop-node l = l.table.items ≡ map reads_of (parts_of (take l.node-index l.nodes))
