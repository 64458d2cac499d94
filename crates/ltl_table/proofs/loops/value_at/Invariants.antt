use Rattle.std.proofs.Common.{◌≡◌, ◌-◌, ◌≤◌, length}
use Rattle.ltl_table.specs.Columns.{back}
use Rattle.ltl_table.proofs.loops.value_at.Given as goal

abbrev pub invariant-loop-i : goal.invariant-loop-i
invariant-loop-i l =
    (l.from ≤ l.i) × (l.i ≤ length l.right) × (l.value ≡ back l.step l.left l.right l.i (length l.right - l.i) l.end)

abbrev pub decreases-loop-i : goal.decreases-loop-i
decreases-loop-i l = l.i - l.from
