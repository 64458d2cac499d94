use Rattle.std.proofs.Common.{◌≡◌, ◌<◌, ◌≤◌, ℕ, length, vec_len}
use Rattle.ltl_table.specs.Columns.{at, looped}
use Rattle.ltl_table.proofs.loops.backward.Given as goal

-- the value is that at i, and the column holds those from i on
abbrev pub invariant-loop-i : goal.invariant-loop-i
invariant-loop-i l =
    (vec_len l.column ≡ length l.right) × (l.i ≤ length l.right)
    × (l.value ≡ looped l.step l.left l.right l.start l.i)
    × ((t : ℕ) → l.i ≤ t → t < length l.right → at l.column.items t ≡ looped l.step l.left l.right l.start t)

abbrev pub decreases-loop-i : goal.decreases-loop-i
decreases-loop-i l = l.i
