use Rattle.std.proofs.Common.{ℕ, ◌+◌, ◌<◌}
use Rattle.clause_core.specs.Assignments.{assignment_of}
use Rattle.frame_core.specs.FrameLaw.{lemma_at}
use Rattle.book_agenda.specs.Values.{MeetsAt}
use Rattle.book_agenda.proofs.values.meets_rows.Given as goal

abbrev pub invariant-rows : goal.invariant-rows
invariant-rows l = (k : ℕ) → k < l.b → MeetsAt (lemma_at l.lemmas (l.begin + k)) l.level (assignment_of l.values)
