use Rattle.std.proofs.Common.{◌≡◌, ◌<◌, ◌≤◌, ℕ, length}
use Rattle.frame_core.specs.FrameLaw.{top_at}
use Rattle.frame_book.proofs.picking.greatest_top.Given as goal

abbrev pub invariant-loop-j : goal.invariant-loop-j
invariant-loop-j l =
    ((k : ℕ) → k < l.j → top_at l.frames.tops k ≤ l.greatest)
    × ((k : ℕ) × (k < length l.frames.systems) × (top_at l.frames.tops k ≡ l.greatest))
