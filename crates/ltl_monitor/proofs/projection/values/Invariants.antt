use Rattle.std.proofs.Common.{◌≡◌, ℕ, ◌<◌, length}
use Rattle.clause_core.specs.Assignments.{assignment_of}
use Rattle.ltl_monitor.specs.declared.layout.Space.{Space}
use Rattle.ltl_monitor.specs.Drafting.{place}
use Rattle.ltl_monitor.proofs.projection.values.Given as goal

abbrev pub invariant-loop-var : goal.invariant-loop-var
invariant-loop-var l =
    (length l.values.items ≡ l.var)
    × ((v : ℕ) → v < l.var → assignment_of l.values.items v ≡ assignment_of l.row (place l.layout Space.System v))
