-- Marks are spread from the nodes from number k on.
use Rattle.fault_texts.proofs.Spreading.{SpreadsFrom}
use Rattle.fault_texts.proofs.marks.spread.Given as goal

abbrev pub invariant-nodes : goal.invariant-nodes
invariant-nodes l = SpreadsFrom l.nodes l.k l.fn.marks.items l.marks.items
