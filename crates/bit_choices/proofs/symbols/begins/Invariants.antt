-- The elements so far are the same.
use Rattle.std.proofs.Common.{◌≡◌, ◌<◌, ◌≤◌, ℕ, get_or, length}
use Rattle.bit_choices.proofs.symbols.begins.Given as goal

abbrev pub invariant-symbols : goal.invariant-symbols
invariant-symbols l = (length l.xs ≤ length l.ys) × ((k : ℕ) → k < l.i → get_or l.xs k 0 ≡ get_or l.ys k 0)
