use Rattle.std.proofs.Common.{◌≡◌, drop}
use Rattle.rup_check.specs.Chains.{before, Walks, Touched}
use Rattle.rup_check.proofs.chains.walk.Given as goal

abbrev pub invariant-loop-j : goal.invariant-loop-j
invariant-loop-j l =
    record {
      forth : Walks (before l.clauses l.units l.steps l.count) l.initial.values l.hints →
          Walks (before l.clauses l.units l.steps l.count) l.values (drop l.j l.hints);
      back : Walks (before l.clauses l.units l.steps l.count) l.values (drop l.j l.hints) →
          Walks (before l.clauses l.units l.steps l.count) l.initial.values l.hints;
      touched : Touched (before l.clauses l.units l.steps l.count) l.initial.values l.hints l.values;
    }
