use Rattle.std.proofs.Common.{◌≡◌, ◌≤◌, vec_len}
use Rattle.ltl_meaning.specs.Ltl.{Ltl, past_height}
use Rattle.ltl_meaning.specs.Unfolded.{repeated}
use Rattle.ltl_meaning.specs.Truth.{Satisfies}
use Rattle.ltl_meaning.specs.Lasso.{on}
use Rattle.ltl_table.specs.Columns.{Tells}
use Rattle.ltl_table.proofs.column.repeated.Given as goal

-- the column is that of the operator so many times
abbrev pub invariant-loop : goal.invariant-loop
invariant-loop l =
    (vec_len l.column ≡ l.n)
    × ((f : Ltl) → past_height (repeated l.operator l.times f) ≤ l.passes → Tells l.fn.operand.items l.n (Satisfies (on l.word) f)
    → Tells l.column.items l.n (Satisfies (on l.word) (repeated l.operator l.counter f)))
