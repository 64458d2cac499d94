-- What stands for the nodes so far.
use Rattle.std.proofs.Common.{map, take}
use Rattle.smv_resolve.specs.Resolved.{parts_of}
use Rattle.smv_layout.specs.Layout.{laid}
use Rattle.smv_layout.specs.Nodes.{AreLaid}
use Rattle.smv_layout.proofs.expressions.lay_out_nodes.Given as goal

abbrev pub invariant-loop-i : goal.invariant-loop-i
invariant-loop-i l = AreLaid l.nodes l.entries.items (map (laid l.variables) (parts_of (take l.i l.from)))
