use Rattle.sat_prop.specs.States.{IsBased}
use Rattle.sat_prop.specs.Moves.{Extends, StillSo}
use Rattle.sat_prop.proofs.sweep.sweep.Given as goal

abbrev pub invariant-loop-k : goal.invariant-loop-k
invariant-loop-k l =
    record {
      based : IsBased l.clauses l.trail;
      extends : Extends l.fn.trail l.trail;
      says : StillSo l.clauses l.fn.trail l.trail l.k l.changed;
    }
