use Rattle.std.proofs.Common.{ℕ, ◌*◌, ◌<◌}
use Rattle.clause_core.specs.Assignments.{assignment_of}
use Rattle.frame_core.specs.FrameLaw.{lemma_at}
use Rattle.book_agenda.specs.Values.{MeetsAt}
use Rattle.book_agenda.proofs.values.meets_live.Given as goal

abbrev pub invariant-parts : goal.invariant-parts
invariant-parts l = (n : ℕ) → n < l.c * 64 → MeetsAt (lemma_at l.lemmas n) l.level (assignment_of l.values)
