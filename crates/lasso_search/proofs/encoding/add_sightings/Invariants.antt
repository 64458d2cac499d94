use Rattle.std.proofs.Common.{◌≡◌, ◌++◌}
use Rattle.clause_core.specs.Literals.{at}
use Rattle.lasso_search.specs.Unrolling.{each, seeing}
use Rattle.lasso_search.proofs.encoding.add_sightings.Given as goal

abbrev pub invariant-loop-set : goal.invariant-loop-set
invariant-loop-set l = l.out ≡ l.initial.out ++ each (λ j. seeing l.plan (at l.fair j) l.time j) l.set
