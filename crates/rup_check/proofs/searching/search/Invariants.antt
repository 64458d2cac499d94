use Rattle.std.proofs.Common.{length}
use Rattle.clause_core.specs.Values.{unset, Grows}
use Rattle.rup_check.specs.Chains.{before}
use Rattle.rup_check.specs.Searches.{LeadsTo}
use Rattle.rup_check.proofs.searching.search.Given as goal

abbrev pub invariant-rounds : goal.invariant-rounds
invariant-rounds l =
    record {
      grows : Grows l.fn.values l.values;
      leads : LeadsTo (before l.clauses l.units l.steps (length l.steps)) l.fn.values l.found.items l.values;
    }

abbrev pub decreases-rounds : goal.decreases-rounds
decreases-rounds l = unset l.values
