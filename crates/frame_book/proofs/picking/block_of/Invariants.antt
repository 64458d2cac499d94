use Rattle.std.proofs.Common.{◌≡◌, ◌<◌, ◌≤◌, ◌+◌, ◌*◌, ℕ, length}
use Rattle.std.specs.Prelude.{MatchOption}
use Rattle.frame_core.specs.FrameLaw.{obligation_at}
use Rattle.frame_history.specs.declared.entries.Subject.TheVariants.{Block}
use Rattle.frame_book.specs.Pages.{state_of}
use Rattle.frame_book.specs.Picking.{IsOffered, IsNotOffered}
use Rattle.frame_book.proofs.picking.block_of.Given as goal

abbrev pub invariant-loop-c : goal.invariant-loop-c
invariant-loop-c l =
    (l.c * 64 < length l.levels.obligations + 64)
    × MatchOption l.best
    ((k : ℕ) → l.c * 64 ≤ k → k < length l.levels.obligations → (obligation_at l.levels.obligations k).system ≡ l.j → IsNotOffered l.limits (state_of l.levels l.register l.marks) (Block k))
    (λ t. IsOffered l.limits (state_of l.levels l.register l.marks) t.subject t.level)

abbrev pub decreases-loop-c : goal.decreases-loop-c
decreases-loop-c l = l.c
