-- The numbers of the first nodes are found.
use Rattle.fault_texts.proofs.Spreading.{FoundBefore}
use Rattle.fault_texts.proofs.reads.found.Given as goal

abbrev pub invariant-nodes : goal.invariant-nodes
invariant-nodes l = FoundBefore l.nodes l.marks l.what l.size l.k l.found.items
