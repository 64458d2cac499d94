use Rattle.std.proofs.Common.{◌≡◌, [], take}
use Rattle.sat_core.proofs.solver.Solver.with_clauses.Given as goal

abbrev pub invariant-clauses : goal.invariant-clauses
invariant-clauses g l = l.solver ≡ record { vars = l.vars; given = take l.k l.clauses; learned = [] }
