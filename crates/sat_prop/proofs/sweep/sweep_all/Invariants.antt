use Rattle.clause_core.specs.Values.{unset}
use Rattle.sat_prop.specs.States.{IsBased}
use Rattle.sat_prop.specs.Moves.{Extends}
use Rattle.sat_prop.proofs.sweep.sweep_all.Given as goal

abbrev pub invariant-rounds : goal.invariant-rounds
invariant-rounds l =
    record {
      based : IsBased l.clauses l.trail;
      extends : Extends l.fn.trail l.trail;
    }

abbrev pub decreases-rounds : goal.decreases-rounds
decreases-rounds l = unset l.trail.values.items
