use Rattle.std.proofs.Common.{◌≡◌, take}
use Rattle.frame_solver.specs.Groups.{first_clause}
use Rattle.frame_solver.proofs.loading.first_literals.Given as goal

abbrev pub invariant-literals : goal.invariant-literals
invariant-literals l = l.literals.items ≡ first_clause l.system (take l.l-index l.clause)
