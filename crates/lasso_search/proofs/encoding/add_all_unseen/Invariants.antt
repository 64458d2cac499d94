use Rattle.std.proofs.Common.{◌≡◌, ◌++◌}
use Rattle.lasso_search.specs.Unrolling.{each, unseen}
use Rattle.lasso_search.proofs.encoding.add_all_unseen.Given as goal

abbrev pub invariant-loop-set : goal.invariant-loop-set
invariant-loop-set l = l.out ≡ l.initial.out ++ each (unseen l.plan) l.set
