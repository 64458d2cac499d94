use Rattle.std.proofs.Common.{◌≡◌}
use Rattle.frame_solver.specs.Firsts.{negation_of}
use Rattle.frame_solver.proofs.negating.negation.Given as goal

abbrev pub invariant-bits : goal.invariant-bits
invariant-bits l = l.literals.items ≡ negation_of l.values l.b
