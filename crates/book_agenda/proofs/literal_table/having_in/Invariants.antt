use Rattle.std.proofs.Common.{◌≡◌, ℕ, ◌<◌, length, slice_index_or}
use Rattle.std.specs.Int.{bit_at}
use Rattle.clause_core.specs.declared.literal.Lit.{Lit}
use Rattle.book_agenda.specs.Tables.{place_of}
use Rattle.book_agenda.proofs.literal_table.having_in.Given as goal

abbrev pub invariant-loop-l : goal.invariant-loop-l
invariant-loop-l l =
    (b : ℕ) → bit_at l.seen b ≡ 1 →
    (k : ℕ) × (m : Lit) × (k < l.l-index) × (slice_index_or l.lits k m ≡ m) × (place_of m < length l.words) × (bit_at (slice_index_or l.words (place_of m) 0) b ≡ 1)
