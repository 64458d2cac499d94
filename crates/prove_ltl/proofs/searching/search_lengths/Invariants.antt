use Rattle.std.proofs.Common.{◌≡◌, ◌≤◌}
use Rattle.prove_ltl.specs.Searching.{AreSearched}
use Rattle.prove_ltl.proofs.searching.search_lengths.Given as goal

abbrev pub invariant-lengths : goal.invariant-lengths
invariant-lengths g l =
    record {
      searched : AreSearched l.initial.solver.system l.first l.k l.initial.solver.known l.solver.known (g.Q.Purse.tickets l.initial.purse) (g.Q.Purse.tickets l.purse);
      from : l.first ≤ l.k;
      system : l.solver.system ≡ l.initial.solver.system;
      kept : g.Q.Purse.kept l.initial.purse l.purse;
      ready : g.Q.Purse.ready l.purse;
      budget : g.Q.Purse.budget l.purse ≡ g.Q.Purse.budget l.initial.purse;
    }
