-- The marks of the nodes so far.
use Rattle.std.proofs.Common.{◌≡◌, take}
use Rattle.bit_formula.specs.Marks.{is_asked, marks_of}
use Rattle.bit_formula.proofs.reading.marks_of.Given as goal

abbrev pub invariant-loop-node : goal.invariant-loop-node
invariant-loop-node l = l.marks.items ≡ marks_of (is_asked l.asked) l.slots (take l.node-index l.nodes)
