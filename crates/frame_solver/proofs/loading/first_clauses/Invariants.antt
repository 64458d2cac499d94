use Rattle.std.proofs.Common.{◌≡◌, map, take}
use Rattle.frame_solver.specs.Groups.{first_clause}
use Rattle.frame_solver.proofs.loading.first_clauses.Given as goal

abbrev pub invariant-clauses : goal.invariant-clauses
invariant-clauses l = l.clauses ≡ map (first_clause l.system) (take l.k l.init)
