use Rattle.std.proofs.Common.{◌≡◌, ◌≤◌, ◌<◌, ◌+◌, ℕ, List, length, ◌++◌, vec_len}
use Rattle.std.specs.Prelude.{vec_capacity}
use Rattle.frame_history.specs.declared.entries.Change.{Change}
use Rattle.frame_book.specs.Marked.{LimitIsLeft, NotesEach}
use Rattle.frame_book.proofs.marks.Marks.note_limits.Given as goal

abbrev pub invariant-loop-j : goal.invariant-loop-j
invariant-loop-j l =
    ((ds : List Change) × (l.changes.items ≡ l.initial.changes.items ++ ds) × NotesEach l.limits l.frames l.initial.self ds l.self)
    × ((k : ℕ) → k < l.j → LimitIsLeft l.limits l.frames l.self k → ⊥) × (length l.self.limited ≡ length l.initial.self.limited)
    × (vec_len l.changes ≤ vec_len l.initial.changes + l.j) × (vec_capacity l.changes ≡ vec_capacity l.initial.changes)
