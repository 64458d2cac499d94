use Rattle.std.proofs.Common.{◌≡◌, ◌+◌, ◌<◌, ℕ, length, vec_len}
use Rattle.std.specs.Prelude.{if◌then◌else◌, nat_lt}
use Rattle.ltl_table.specs.Columns.{at}
use Rattle.ltl_table.proofs.pointwise.next.Given as goal

abbrev pub invariant-loop-i : goal.invariant-loop-i
invariant-loop-i l = (vec_len l.column ≡ l.i) × ((t : ℕ) → t < l.i → at l.column.items t ≡ at l.operand (if nat_lt (t + 1) (length l.operand) then t + 1 else l.start))
