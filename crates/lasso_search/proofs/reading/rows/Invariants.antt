use Rattle.std.proofs.Common.{◌≡◌, [], ◌∷◌}
use Rattle.clause_core.specs.Assignments.{assignment_of}
use Rattle.lasso_search.specs.Unrolling.{each}
use Rattle.lasso_search.specs.Searches.{row_of}
use Rattle.lasso_search.proofs.reading.rows.Given as goal

abbrev pub invariant-loop-time : goal.invariant-loop-time
invariant-loop-time l = l.rows.items ≡ each (λ i. row_of l.plan (assignment_of l.model) i ∷ []) l.time
