use Rattle.std.proofs.Common.{◌≡◌, ◌++◌, take}
use Rattle.lasso_search.specs.Unrolling.{all_moved}
use Rattle.lasso_search.proofs.plan.Plan.copy.Given as goal

abbrev pub invariant-loop-k : goal.invariant-loop-k
invariant-loop-k l = l.into ≡ l.initial.into ++ all_moved l.self l.turn (take l.k l.clauses)
