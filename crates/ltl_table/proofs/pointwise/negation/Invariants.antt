use Rattle.std.proofs.Common.{◌≡◌, ◌<◌, ℕ, not, vec_len}
use Rattle.ltl_table.specs.Columns.{at}
use Rattle.ltl_table.proofs.pointwise.negation.Given as goal

abbrev pub invariant-loop-i : goal.invariant-loop-i
invariant-loop-i l = (vec_len l.column ≡ l.i) × ((t : ℕ) → t < l.i → at l.column.items t ≡ not (at l.operand t))
