use Rattle.std.proofs.Common.{◌≡◌, ◌⊎◌, ◌<◌, ◌≤◌, ℕ}
use Rattle.std.specs.Prelude.{Some, None}
use Rattle.frame_core.specs.FrameLaw.{obligation_at}
use Rattle.frame_history.specs.declared.entries.Subject.TheVariants.{Block}
use Rattle.frame_book.specs.declared.picking.Task.{Task}
use Rattle.frame_book.specs.Pages.{state_of}
use Rattle.frame_book.specs.Picking.{IsOffered, IsNotOffered}
use Rattle.frame_book.proofs.picking.with_blocks.Given as goal

abbrev pub invariant-loop-o : goal.invariant-loop-o
invariant-loop-o l =
    (l.o ≤ l.end)
    × ((t : Task) → l.best ≡ Some t → (l.initial.best ≡ Some t) ⊎ IsOffered l.limits (state_of l.levels l.register l.marks) t.subject t.level)
    × (l.best ≡ None → (l.initial.best ≡ None) × ((k : ℕ) → l.o ≤ k → k < l.end → (obligation_at l.levels.obligations k).system ≡ l.j → IsNotOffered l.limits (state_of l.levels l.register l.marks) (Block k)))

abbrev pub decreases-loop-o : goal.decreases-loop-o
decreases-loop-o l = l.o
