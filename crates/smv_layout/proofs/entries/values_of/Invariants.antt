-- The nodes of the values so far.
use Rattle.std.proofs.Common.{◌≡◌, map, take}
use Rattle.smv_layout.specs.Nodes.{node_of}
use Rattle.smv_layout.proofs.entries.values_of.Given as goal

abbrev pub invariant-loop-x : goal.invariant-loop-x
invariant-loop-x l = l.values.items ≡ map node_of (take l.x-index l.xs)
