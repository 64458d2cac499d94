use Rattle.std.proofs.Common.{take}
use Rattle.clause_core.specs.Literals.{negate}
use Rattle.frame_solver.specs.Stepping.{IsCut}
use Rattle.frame_solver.proofs.first_states.part_of.Given as goal

abbrev pub invariant-literals : goal.invariant-literals
invariant-literals l = IsCut negate l.core (take l.l-index l.clause) l.part.items
