use Rattle.std.proofs.Common.{◌≡◌, ℕ, ◌<◌, ◌≤◌, ◌*◌, length}
use Rattle.clause_core.specs.Assignments.{assignment_of}
use Rattle.frame_core.specs.FrameLaw.{lemma_at, obligation_at}
use Rattle.book_agenda.specs.Values.{IsLifted, AreFloors, blocked_at}
use Rattle.book_agenda.proofs.values.lift.Given as goal

abbrev pub invariant-loop-c : goal.invariant-loop-c
invariant-loop-c l =
    (length l.blocked.items ≡ length l.initial.blocked.items)
    × (length l.floors.items ≡ length l.initial.floors.items)
    × AreFloors l.floors.items l.blocked.items
    × ((k : ℕ) → k < l.c * 64 → k < length l.initial.blocked.items → IsLifted (lemma_at l.frames.lemmas l.n) (assignment_of (obligation_at l.frames.obligations k).values) (blocked_at l.initial.blocked.items k) (blocked_at l.blocked.items k))
    × ((k : ℕ) → l.c * 64 ≤ k → blocked_at l.blocked.items k ≡ blocked_at l.initial.blocked.items k)
