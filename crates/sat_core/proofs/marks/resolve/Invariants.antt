use Rattle.std.proofs.Common.{◌≡◌, ◌≤◌, ◌<◌, length}
use Rattle.sat_core.specs.Positions.{level_marks}
use Rattle.sat_core.specs.Searching.{LowListed, MarksFalse, NoneFrom}
use Rattle.sat_core.proofs.marks.resolve.Given as goal

abbrev pub invariant-loop-p : goal.invariant-loop-p
invariant-loop-p g l =
    record {
      marks : MarksFalse (g.P.Propagator.trail l.inner).literals.items (g.P.Propagator.clauses l.inner) l.marks l.start;
      counted : level_marks l.marks l.floor ≡ l.open;
      pos : 0 < l.open;
      high : NoneFrom l.marks l.p;
      low_ok : LowListed l.marks l.floor l.low.items;
      floor_le : l.floor ≤ l.p;
      upper : l.p ≤ length l.marks;
    }
