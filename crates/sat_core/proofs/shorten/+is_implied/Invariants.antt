use Rattle.std.proofs.Common.{◌≡◌, take, get_or}
use Rattle.std.specs.List.{All}
use Rattle.sat_core.specs.Positions.{Marked}
use Rattle.sat_core.specs.Searching.{MarksImplied}
use Rattle.sat_core.proofs.shorten.+is_implied.Given as goal

abbrev pub decreases-is_implied : goal.decreases-is_implied
decreases-is_implied g l = l.depth

abbrev pub invariant-loop-x : goal.invariant-loop-x
invariant-loop-x g l =
    record {
      marks : MarksImplied (g.P.Propagator.trail l.inner) (g.P.Propagator.clauses l.inner) l.first l.fn.marks l.marks;
      done : All (λ m. (get_or l.trail.positions.items m.var 0 ≡ l.q → ⊥) → Marked l.marks (get_or l.trail.positions.items m.var 0)) (take l.x-index l.x-items);
    }
