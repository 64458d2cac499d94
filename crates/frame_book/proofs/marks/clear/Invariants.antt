use Rattle.std.proofs.Common.{◌≡◌, ◌<◌, ◌≤◌, ℕ, false, length}
use Rattle.std.specs.Prelude.{slice_index_or}
use Rattle.frame_book.proofs.marks.clear.Given as goal

abbrev pub invariant-loop-i : goal.invariant-loop-i
invariant-loop-i l =
    (length l.marks.items ≡ length l.initial.marks.items)
    × ((k : ℕ) → k < l.i → slice_index_or l.marks.items k false ≡ false)
    × ((k : ℕ) → l.beyond ≤ k → slice_index_or l.marks.items k false ≡ false)
