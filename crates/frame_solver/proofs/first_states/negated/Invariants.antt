use Rattle.std.proofs.Common.{◌≡◌, map, take}
use Rattle.clause_core.specs.Literals.{negate}
use Rattle.frame_solver.proofs.first_states.negated.Given as goal

abbrev pub invariant-literals : goal.invariant-literals
invariant-literals l = l.literals.items ≡ map negate (take l.l-index l.clause)
