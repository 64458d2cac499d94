use Rattle.std.proofs.Common.{◌<◌, ℕ, get_or}
use Rattle.sat_prop.specs.Moves.{Extends}
use Rattle.sat_prop.specs.Watches.{ShortDone}
use Rattle.sat_prop.specs.Roots.{ShortSwept}
use Rattle.sat_prop.specs.States.{IsBased}
use Rattle.sat_prop.proofs.queue.sweep_short.Given as goal

abbrev pub invariant-short : goal.invariant-short
invariant-short l =
    record {
      based : IsBased l.clauses l.trail;
      extends : Extends l.fn.trail l.trail;
      done : (i : ℕ) → i < l.j → ShortDone l.clauses l.trail.literals.items (get_or l.short i 0);
      swept : ShortSwept l.clauses l.short l.swept l.trail.literals.items;
    }
