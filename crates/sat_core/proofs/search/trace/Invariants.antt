use Rattle.std.proofs.Common.{◌≤◌, ◌⊎◌, length, ℕ}
use Rattle.std.specs.List.{All, Contains}
use Rattle.clause_core.specs.declared.literal.Lit.{Lit}
use Rattle.sat_core.specs.Positions.{Marked}
use Rattle.clause_core.specs.Literals.{at}
use Rattle.sat_core.specs.Searching.{LowListed, MarksFalse, decided}
use Rattle.sat_core.proofs.search.trace.Given as goal

abbrev pub invariant-loop-p : goal.invariant-loop-p
invariant-loop-p g l =
    record {
      marks : MarksFalse (g.P.Propagator.trail l.inner).literals.items (g.P.Propagator.clauses l.inner) l.marks l.start;
      done : (q : ℕ) → l.p ≤ q → Marked l.marks q → Contains l.core.items (at (g.P.Propagator.trail l.inner).literals.items q);
      kept : (x : Lit) → Contains l.fn.core.items x → Contains l.core.items x;
      parts : All (λ x. Contains l.fn.core.items x ⊎ Contains (decided (g.P.Propagator.trail l.inner).literals.items (g.P.Propagator.trail l.inner).level_starts.items) x) l.core.items;
      low_ok : LowListed l.marks 0 l.low.items;
      upper : l.p ≤ length l.marks;
    }
