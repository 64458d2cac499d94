use Rattle.std.proofs.Common.{◌≡◌, ◌+◌, not, take, All}
use Rattle.clause_core.specs.declared.literal.Lit.{Lit}
use Rattle.clause_core.specs.Assignments.{assignment_of}
use Rattle.frame_solver.proofs.known_steps.is_outside.Given as goal

abbrev pub invariant-literals : goal.invariant-literals
invariant-literals l = All (λ (m : Lit). assignment_of l.values (l.from + m.var) ≡ not m.positive) (take l.l-index l.clause)
