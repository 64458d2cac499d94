use Rattle.std.proofs.Common.{◌≡◌}
use Rattle.query_tests.proofs.frame_queries.often.Given as goal

abbrev pub invariant-queries : goal.invariant-queries
invariant-queries l = l.solver.systems ≡ l.fn.solver.systems
