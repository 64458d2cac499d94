use Rattle.std.proofs.Common.{◌≡◌, ◌++◌, take}
use Rattle.frame_solver.specs.Guards.{behind}
use Rattle.frame_solver.proofs.loading.push_group.Given as goal

abbrev pub invariant-clauses : goal.invariant-clauses
invariant-clauses l = l.solver ≡ record l.fn.solver { given = l.fn.solver.given ++ behind l.guard (take l.k l.clauses) }
