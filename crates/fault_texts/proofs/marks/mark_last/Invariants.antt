use Rattle.fault_texts.specs.Marks.{Marks}
use Rattle.fault_texts.proofs.Marking.{is_between}
use Rattle.fault_texts.proofs.marks.mark_last.Given as goal

abbrev pub invariant-loop-j : goal.invariant-loop-j
invariant-loop-j l = Marks (is_between l.first l.j) l.fn.marks.items l.marks.items
