use Rattle.std.proofs.Common.{◌<◌, ◌⊎◌, ℕ}
use Rattle.frame_history.specs.History.{IsDecided}
use Rattle.frame_book.specs.Pages.{state_of}
use Rattle.frame_book.specs.Picking.{HasNoTask}
use Rattle.frame_book.proofs.picking.pick.Given as goal

abbrev pub invariant-loop-j : goal.invariant-loop-j
invariant-loop-j l =
    (k : ℕ) → k < l.j → IsDecided (state_of l.levels l.register l.marks) k ⊎ HasNoTask l.limits (state_of l.levels l.register l.marks) k
