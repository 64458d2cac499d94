use Rattle.std.proofs.Common.{◌≡◌, ◌⊎◌, ℕ, vec_len}
use Rattle.clause_core.specs.declared.literal.Lit.{Lit}
use Rattle.clause_core.specs.Assignments.{assignment_of}
use Rattle.book_agenda.specs.Tables.{IsSet}
use Rattle.book_agenda.proofs.literal_table.set_values.Given as goal

abbrev pub invariant-loop-var : goal.invariant-loop-var
invariant-loop-var l =
    (vec_len l.words ≡ vec_len l.initial.words)
    × ((r : ℕ) (m : Lit) → IsSet l.width l.words.items r m → IsSet l.width l.initial.words.items r m ⊎ ((r ≡ l.row) × (assignment_of l.values m.var ≡ m.positive)))
