use Rattle.std.proofs.Common.{◌≡◌, ◌+◌, ◌<◌, ℕ, vec_len}
use Rattle.ltl_table.specs.Columns.{at, forth}
use Rattle.ltl_table.proofs.loops.forward.Given as goal

abbrev pub invariant-loop-i : goal.invariant-loop-i
invariant-loop-i l =
    (vec_len l.column ≡ l.i) × (l.value ≡ forth l.step l.left l.right l.i)
    × ((t : ℕ) → t < l.i → at l.column.items t ≡ forth l.step l.left l.right (t + 1))
