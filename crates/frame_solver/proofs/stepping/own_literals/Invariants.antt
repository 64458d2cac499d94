use Rattle.std.proofs.Common.{◌≡◌, take}
use Rattle.frame_solver.specs.Stepping.{step_literals}
use Rattle.frame_solver.proofs.stepping.own_literals.Given as goal

abbrev pub invariant-literals : goal.invariant-literals
invariant-literals l = l.literals.items ≡ step_literals l.bits l.own (take l.l-index l.clause)
