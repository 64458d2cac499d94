use Rattle.std.proofs.Common.{◌≡◌, [], length, take}
use Rattle.sat_core.specs.Queries.{given_of}
use Rattle.sat_core.proofs.solver.with_given_clauses.Given as goal

abbrev pub invariant-clauses : goal.invariant-clauses
invariant-clauses g l = l.solver ≡ record { vars = length (g.P.Propagator.trail l.inner).values.items; given = given_of l.marks (take l.k (g.P.Propagator.clauses l.inner)); learned = [] }
