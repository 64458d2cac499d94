use Rattle.std.proofs.Common.{◌+◌, ◌-◌, length}
use Rattle.clause_core.specs.Values.{unset}
use Rattle.sat_prop.specs.Moves.{Extends}
use Rattle.sat_prop.specs.States.{IsWatched, IsPropagated, KeepsWatches}
use Rattle.sat_prop.proofs.queue.run_queue.Given as goal

abbrev pub invariant-queue : goal.invariant-queue
invariant-queue l =
    record {
      watched : IsWatched l.clauses l.trail l.rows l.lists;
      propagated : IsPropagated l.clauses l.trail l.rows l.head;
      extends : Extends l.fn.trail l.trail;
      kept : KeepsWatches l.clauses l.fn.rows l.rows l.fn.trail;
    }

abbrev pub decreases-queue : goal.decreases-queue
decreases-queue l = length l.trail.literals.items + unset l.trail.values.items - l.head
