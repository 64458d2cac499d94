use Rattle.std.proofs.Common.{length}
use Rattle.std.specs.List.{All}
use Rattle.sat_prop.specs.Packing.{pairs}
use Rattle.sat_prop.specs.Moves.{Extends}
use Rattle.sat_prop.specs.Sifted.{put_back}
use Rattle.sat_prop.specs.States.{IsWatched, KeepsWatches}
use Rattle.sat_prop.specs.Watches.{DoneWith}
use Rattle.sat_prop.proofs.visit.visit_entries.Given as goal

abbrev pub invariant-visit : goal.invariant-visit
invariant-visit l =
    record {
      watched : IsWatched l.clauses l.trail l.rows (put_back l.lists l.f l.sieve);
      extends : Extends l.fn.trail l.trail;
      kept : KeepsWatches l.clauses l.fn.rows l.rows l.fn.trail;
      done : All (λ e. DoneWith l.clauses (pairs l.rows) l.trail.literals.items l.f e.clause) l.sieve.kept;
    }

abbrev pub decreases-visit : goal.decreases-visit
decreases-visit l = length l.sieve.rest
