use Rattle.std.proofs.Common.{◌≡◌, ◌++◌, take}
use Rattle.lasso_search.proofs.loading.push_all.Given as goal

abbrev pub invariant-loop-k : goal.invariant-loop-k
invariant-loop-k l = l.solver ≡ record l.fn.solver { given = l.fn.solver.given ++ take l.k l.clauses }
