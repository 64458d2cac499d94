use Rattle.std.proofs.Common.{length}
use Rattle.clause_core.specs.Derivations.{AllStepsBelow}
use Rattle.rup_check.proofs.checking.check_log.Given as goal

abbrev pub invariant-loop-k : goal.invariant-loop-k
invariant-loop-k l = AllStepsBelow (length l.fn.values) l.clauses l.log l.k
