use Rattle.std.proofs.Common.{◌≡◌}
use Rattle.lasso_search.proofs.loading.raise.Given as goal

abbrev pub invariant-loop-literal : goal.invariant-loop-literal
invariant-loop-literal l = l.solver ≡ l.fn.solver
