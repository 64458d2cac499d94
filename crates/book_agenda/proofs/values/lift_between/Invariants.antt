use Rattle.std.proofs.Common.{◌≡◌, ℕ, ◌<◌, ◌≤◌, length}
use Rattle.clause_core.specs.Assignments.{assignment_of}
use Rattle.frame_core.specs.FrameLaw.{lemma_at, obligation_at}
use Rattle.book_agenda.specs.Values.{IsLifted, blocked_at}
use Rattle.book_agenda.proofs.values.lift_between.Given as goal

abbrev pub invariant-loop-o : goal.invariant-loop-o
invariant-loop-o l =
    (length l.blocked.items ≡ length l.initial.blocked.items) × (l.o ≤ l.end)
    × ((k : ℕ) → l.begin ≤ k → k < l.o → IsLifted (lemma_at l.frames.lemmas l.n) (assignment_of (obligation_at l.frames.obligations k).values) (blocked_at l.initial.blocked.items k) (blocked_at l.blocked.items k))
    × ((k : ℕ) → k < l.begin → blocked_at l.blocked.items k ≡ blocked_at l.initial.blocked.items k)
    × ((k : ℕ) → l.o ≤ k → blocked_at l.blocked.items k ≡ blocked_at l.initial.blocked.items k)
    × ((k : ℕ) → l.begin ≤ k → k < l.o → l.floor ≤ blocked_at l.blocked.items k)
