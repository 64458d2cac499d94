use Rattle.std.proofs.Common.{◌⊎◌, ◌<◌, take}
use Rattle.std.specs.List.{All, Contains}
use Rattle.sat_core.specs.Searching.{Implied, MarksImplied}
use Rattle.sat_core.proofs.shorten.push_kept.Given as goal

abbrev pub invariant-low : goal.invariant-low
invariant-low g l =
    record {
      marks : MarksImplied (g.P.Propagator.trail l.inner) (g.P.Propagator.clauses l.inner) l.first l.fn.marks l.marks;
      left : All (λ q. Contains l.kept.items q ⊎ Implied (g.P.Propagator.trail l.inner) (g.P.Propagator.clauses l.inner) l.marks l.first q) (take l.x-index l.low);
      below : All (λ q. q < l.floor) l.kept.items;
    }
