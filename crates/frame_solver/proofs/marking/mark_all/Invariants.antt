use Rattle.std.proofs.Common.{◌≡◌, take, length}
use Rattle.frame_solver.specs.Stepping.{AreMarked}
use Rattle.frame_solver.proofs.marking.mark_all.Given as goal

abbrev pub invariant-literals : goal.invariant-literals
invariant-literals l = AreMarked l.from (take l.l-index l.literals) l.marks.items × (length l.marks.items ≡ length l.fn.marks.items)
