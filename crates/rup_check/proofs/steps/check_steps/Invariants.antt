use Rattle.std.proofs.Common.{◌++◌, length}
use Rattle.hinted_log.specs.Hints.{AllHintedBelow}
use Rattle.rup_check.specs.Chains.{units_of, IsClear}
use Rattle.rup_check.proofs.steps.check_steps.Given as goal

abbrev pub invariant-loop-k : goal.invariant-loop-k
invariant-loop-k l =
    record {
      clear : IsClear l.values;
      hinted : AllHintedBelow (length l.fn.values) (l.clauses ++ units_of l.units) l.log l.k;
    }
