use Rattle.std.proofs.Common.{◌≡◌, [], ◌∷◌, ◌++◌}
use Rattle.lasso_search.specs.Unrolling.{each, seen}
use Rattle.lasso_search.proofs.encoding.add_all_seen.Given as goal

abbrev pub invariant-loop-set : goal.invariant-loop-set
invariant-loop-set l = l.out.items ≡ l.initial.out.items ++ each (λ j. seen l.plan j l.time ∷ []) l.set
