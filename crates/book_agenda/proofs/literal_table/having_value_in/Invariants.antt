use Rattle.std.proofs.Common.{◌≡◌, ℕ, ◌<◌, length, slice_index_or}
use Rattle.std.specs.Int.{bit_at}
use Rattle.clause_core.specs.declared.literal.Lit.{Lit}
use Rattle.clause_core.specs.Assignments.{assignment_of}
use Rattle.book_agenda.specs.Tables.{place_of}
use Rattle.book_agenda.proofs.literal_table.having_value_in.Given as goal

abbrev pub invariant-loop-var : goal.invariant-loop-var
invariant-loop-var l =
    (b : ℕ) → bit_at l.seen b ≡ 1 →
    (m : Lit) × (assignment_of l.values m.var ≡ m.positive) × (place_of m < length l.words) × (bit_at (slice_index_or l.words (place_of m) 0) b ≡ 1)
