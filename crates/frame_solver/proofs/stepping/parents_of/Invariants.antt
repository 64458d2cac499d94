use Rattle.std.proofs.Common.{take}
use Rattle.frame_solver.specs.Stepping.{AreParents}
use Rattle.frame_solver.proofs.stepping.parents_of.Given as goal

abbrev pub invariant-literals : goal.invariant-literals
invariant-literals l = AreParents l.first l.lemmas (take l.l-index l.core) l.parents.items
