use Rattle.std.proofs.Common.{◌≡◌}
use Rattle.frame_solver.proofs.loading.prefer_first.Given as goal

abbrev pub invariant-clauses : goal.invariant-clauses
invariant-clauses l = l.solver ≡ l.fn.solver
