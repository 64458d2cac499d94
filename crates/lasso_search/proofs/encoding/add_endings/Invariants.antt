use Rattle.std.proofs.Common.{◌≡◌, ◌++◌}
use Rattle.lasso_search.specs.Unrolling.{each, ending}
use Rattle.lasso_search.proofs.encoding.add_endings.Given as goal

abbrev pub invariant-loop-bit : goal.invariant-loop-bit
invariant-loop-bit l = l.out ≡ l.initial.out ++ each (ending l.plan l.time) l.bit
