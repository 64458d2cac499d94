use Rattle.std.proofs.Common.{◌≤◌, length}
use Rattle.clause_core.specs.Values.{unset, Grows}
use Rattle.rup_check.specs.Chains.{before}
use Rattle.rup_check.specs.Passes.{PassSoFar}
use Rattle.rup_check.specs.Searches.{Carries}
use Rattle.rup_check.proofs.searching.search_pass.Given as goal

abbrev pub invariant-loop-h : goal.invariant-loop-h
invariant-loop-h l =
    record {
      grows : Grows l.initial.values l.values;
      less : unset l.values ≤ unset l.initial.values;
      says : PassSoFar l.initial.values (before l.clauses l.units l.steps (length l.steps)) l.values l.h l.changed;
      carries : Carries (before l.clauses l.units l.steps (length l.steps)) l.initial.values l.initial.found.items l.values l.found.items;
    }
