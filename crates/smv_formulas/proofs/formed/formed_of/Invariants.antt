-- the marks of the nodes so far, and whether they are formed
use Rattle.std.proofs.Common.{◌≡◌, take}
use Rattle.smv_formulas.specs.Formed.{formed_of}
use Rattle.smv_formulas.specs.Marks.{marks_of}
use Rattle.smv_formulas.proofs.formed.formed_of.Given as goal

abbrev pub invariant-loop-node : goal.invariant-loop-node
invariant-loop-node l = record {
  marks : l.marks.items ≡ marks_of (take l.node-index l.nodes);
  formed : l.formed.items ≡ formed_of (take l.node-index l.nodes);
}
