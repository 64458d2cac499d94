use Rattle.std.proofs.Common.{◌≡◌, map, take}
use Rattle.lasso_search.specs.Unrolling.{moved}
use Rattle.lasso_search.proofs.plan.Plan.moved_all.Given as goal

abbrev pub invariant-loop-literal : goal.invariant-loop-literal
invariant-loop-literal l = l.all.items ≡ map (moved l.self l.turn) (take l.literal-index l.literals)
