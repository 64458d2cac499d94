-- The integers of the nodes so far.
use Rattle.std.proofs.Common.{◌≡◌, map, take}
use Rattle.smv_resolve.specs.Resolved.{parts_of}
use Rattle.smv_layout.specs.Indices.{index_of}
use Rattle.smv_layout.proofs.indices.indices_of.Given as goal

abbrev pub invariant-loop-node : goal.invariant-loop-node
invariant-loop-node l = l.table.items ≡ map index_of (parts_of (take l.node-index l.nodes))
