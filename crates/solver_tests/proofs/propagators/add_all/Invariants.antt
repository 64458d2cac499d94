use Rattle.std.proofs.Common.{◌≡◌, length}
use Rattle.solver_tests.proofs.propagators.add_all.Given as goal

abbrev pub invariant-loop-letter : goal.invariant-loop-letter
invariant-loop-letter g l = length (g.P.Propagator.trail l.p).level_starts.items ≡ 0
