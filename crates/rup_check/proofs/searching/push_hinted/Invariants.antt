use Rattle.std.proofs.Common.{◌++◌, length}
use Rattle.clause_core.specs.Derivations.{AllStepsBelow}
use Rattle.hinted_log.specs.Hints.{IsHinted}
use Rattle.rup_check.specs.Chains.{units_of}
use Rattle.rup_check.specs.Searches.{Keeps}
use Rattle.rup_check.proofs.searching.push_hinted.Given as goal

abbrev pub invariant-loop-k : goal.invariant-loop-k
invariant-loop-k l =
    record {
      follows : AllStepsBelow (length l.fn.values) (l.clauses ++ units_of l.units) l.log l.k;
      hinted : IsHinted (length l.fn.values) (l.clauses ++ units_of l.units) l.hinted;
      keeps : Keeps l.log l.k l.hinted;
    }
