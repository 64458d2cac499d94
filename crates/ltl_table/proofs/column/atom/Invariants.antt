use Rattle.std.proofs.Common.{◌≡◌, ◌<◌, ℕ, vec_len}
use Rattle.std.specs.Prelude.{◌↔◌, IsTrue}
use Rattle.ltl_meaning.specs.Lasso.{on}
use Rattle.ltl_table.specs.Columns.{at}
use Rattle.ltl_table.proofs.column.atom.Given as goal

abbrev pub invariant-loop-i : goal.invariant-loop-i
invariant-loop-i l = (vec_len l.column ≡ l.i) × ((t : ℕ) → t < l.i → IsTrue (at l.column.items t) ↔ on l.word l.number t)
