use Rattle.std.proofs.Common.{◌≡◌, [], ◌∷◌}
use Rattle.clause_core.specs.Assignments.{assignment_of}
use Rattle.lasso_search.specs.declared.plan.Turn.{Turn}
use Rattle.lasso_search.specs.Unrolling.{each, place}
use Rattle.lasso_search.proofs.reading.row.Given as goal

abbrev pub invariant-loop-var : goal.invariant-loop-var
invariant-loop-var l = l.values.items ≡ each (λ v. assignment_of l.model (place l.plan (Turn.Step l.time) v) ∷ []) l.var
