use Rattle.std.proofs.Common.{◌≡◌}
use Rattle.lasso_search.specs.Searches.{IsLoaded}
use Rattle.lasso_search.proofs.loading.catch_up.Given as goal

abbrev pub invariant-steps : goal.invariant-steps
invariant-steps l = IsLoaded l.system l.engine × (l.engine.steps ≡ l._time) × (l.engine.solver.vars ≡ l.fn.engine.solver.vars) × (l.engine.solver.learned ≡ l.fn.engine.solver.learned)
