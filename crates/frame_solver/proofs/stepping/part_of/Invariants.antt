use Rattle.std.proofs.Common.{take}
use Rattle.frame_solver.specs.Stepping.{left, IsCut}
use Rattle.frame_solver.proofs.stepping.part_of.Given as goal

abbrev pub invariant-literals : goal.invariant-literals
invariant-literals l = IsCut (left l.bits) l.core (take l.l-index l.clause) l.part.items
