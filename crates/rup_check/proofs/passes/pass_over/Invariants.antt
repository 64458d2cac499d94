use Rattle.std.proofs.Common.{◌≤◌, take}
use Rattle.clause_core.specs.Values.{Consequent, unset, Grows}
use Rattle.rup_check.specs.Passes.{PassSoFar}
use Rattle.rup_check.proofs.passes.pass_over.Given as goal

abbrev pub invariant-loop-k : goal.invariant-loop-k
invariant-loop-k l =
    record {
      kept : Consequent l.initial.values (take l.count l.clauses) l.values;
      grows : Grows l.initial.values l.values;
      says : PassSoFar l.initial.values (take l.count l.clauses) l.values l.k l.changed;
      less : unset l.values ≤ unset l.initial.values;
    }
