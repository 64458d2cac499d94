use Rattle.std.proofs.Common.{◌≡◌, ◌-◌, ◌+◌, ◌*◌, length}
use Rattle.clause_core.specs.Values.{unset}
use Rattle.sat_core.specs.Queries.{IsRefutedAtOnce}
use Rattle.sat_core.specs.Searching.{PerLevel, Level, GrowsByLearning, PaidFor, KnowsPositives}
use Rattle.sat_core.specs.Ends.{IsSeen}
use Rattle.effort_purse.specs.Drawing.{past}
use Rattle.sat_core.proofs.search.search.Given as goal

abbrev pub invariant-search : goal.invariant-search
invariant-search g l =
    record {
      known : KnowsPositives (length (g.P.Propagator.trail l.inner).values.items) l.positives (g.P.Propagator.clauses l.inner);
      learned : GrowsByLearning (length (g.P.Propagator.trail l.fn.inner).values.items) l.assumptions (g.P.Propagator.clauses l.fn.inner) (g.P.Propagator.clauses l.inner);
      vars : length (g.P.Propagator.trail l.inner).values.items ≡ length (g.P.Propagator.trail l.fn.inner).values.items;
      levels : PerLevel (Level (g.P.Propagator.clauses l.inner) l.assumptions) (g.P.Propagator.trail l.inner).literals.items (g.P.Propagator.trail l.inner).level_starts.items;
      seen : IsSeen (g.P.Propagator.trail l.inner).literals.items l.assumptions l.seen;
      kept : g.Q.Purse.kept l.fn.purse l.purse;
      ready : g.Q.Purse.ready l.purse;
      budget : g.Q.Purse.budget l.purse ≡ g.Q.Purse.budget l.fn.purse;
      paid : PaidFor (g.Q.Purse.tickets l.fn.purse) (g.Q.Purse.tickets l.purse) (g.P.Propagator.clauses l.fn.inner) (g.P.Propagator.clauses l.inner);
      once :
          IsRefutedAtOnce (g.P.Propagator.clauses l.fn.inner) l.assumptions →
          (g.P.Propagator.clauses l.inner ≡ g.P.Propagator.clauses l.fn.inner)
          × (g.Q.Purse.tickets l.purse ≡ g.Q.Purse.tickets l.fn.purse)
          × (length (g.P.Propagator.trail l.inner).level_starts.items ≡ 0);
    }

abbrev pub decreases-search : goal.decreases-search
decreases-search g l =
    (g.Q.Purse.budget l.purse - past (g.Q.Purse.tickets l.purse)) * (length (g.P.Propagator.trail l.fn.inner).values.items + 1) + unset (g.P.Propagator.trail l.inner).values.items
