use Rattle.std.proofs.Common.{◌≡◌, ◌≤◌, ◌-◌, []}
use Rattle.prove_ltl.specs.Searching.{AreSearched}
use Rattle.prove_ltl.proofs.searching.search_all.Given as goal

abbrev pub invariant-longer : goal.invariant-longer
invariant-longer g l =
    record {
      searched : AreSearched l.system 0 l.low [] l.solver.known [] (g.Q.Purse.tickets l.purse);
      within : l.low ≤ l.bound;
      system : l.solver.system ≡ l.system;
      kept : g.Q.Purse.kept l.fn.purse l.purse;
      ready : g.Q.Purse.ready l.purse;
      budget : g.Q.Purse.budget l.purse ≡ g.Q.Purse.budget l.fn.purse;
    }

abbrev pub decreases-longer : goal.decreases-longer
decreases-longer g l = l.bound - l.low
