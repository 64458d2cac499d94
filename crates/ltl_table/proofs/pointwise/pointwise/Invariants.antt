use Rattle.std.proofs.Common.{◌≡◌, ◌<◌, ℕ, vec_len}
use Rattle.ltl_table.specs.Columns.{at, combine}
use Rattle.ltl_table.proofs.pointwise.pointwise.Given as goal

abbrev pub invariant-loop-i : goal.invariant-loop-i
invariant-loop-i l = (vec_len l.column ≡ l.i) × ((t : ℕ) → t < l.i → at l.column.items t ≡ combine l.connective (at l.left t) (at l.right t))
