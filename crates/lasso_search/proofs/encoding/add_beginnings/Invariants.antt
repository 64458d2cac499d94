use Rattle.std.proofs.Common.{◌≡◌, ◌++◌}
use Rattle.lasso_search.specs.Unrolling.{each, beginning}
use Rattle.lasso_search.proofs.encoding.add_beginnings.Given as goal

abbrev pub invariant-loop-bit : goal.invariant-loop-bit
invariant-loop-bit l = l.out ≡ l.initial.out ++ each (beginning l.plan l.time) l.bit
