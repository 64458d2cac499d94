use Rattle.std.proofs.Common.{◌≡◌, ℕ, ◌+◌, ◌<◌, false}
use Rattle.clause_core.specs.Assignments.{assignment_of}
use Rattle.lasso_search.specs.Unrolling.{begun_literal}
use Rattle.lasso_search.proofs.reading.start.Given as goal

abbrev pub invariant-loop-time : goal.invariant-loop-time
invariant-loop-time l = (k : ℕ) → k < l.time → assignment_of l.model (begun_literal l.plan (k + 1)).var ≡ false
