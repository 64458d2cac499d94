-- The constants of the nodes so far.
use Rattle.std.proofs.Common.{◌≡◌, map, take}
use Rattle.smv_resolve.specs.Resolved.{parts_of}
use Rattle.smv_declared.specs.Constants.{constant_of}
use Rattle.smv_declared.proofs.constants.constants_of.Given as goal

abbrev pub invariant-loop-node : goal.invariant-loop-node
invariant-loop-node l = l.table.items ≡ map constant_of (parts_of (take l.node-index l.nodes))
