-- the marks of the nodes so far
use Rattle.std.proofs.Common.{◌≡◌, take}
use Rattle.smv_formulas.specs.Marks.{marks_of}
use Rattle.smv_formulas.proofs.marks.marks_of.Given as goal

abbrev pub invariant-loop-node : goal.invariant-loop-node
invariant-loop-node l = l.marks.items ≡ marks_of (take l.node-index l.nodes)
