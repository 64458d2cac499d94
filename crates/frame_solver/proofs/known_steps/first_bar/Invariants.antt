use Rattle.std.proofs.Common.{◌<◌, ◌≤◌, ℕ}
use Rattle.clause_core.specs.Assignments.{ClauseTrue, assignment_of}
use Rattle.frame_core.specs.FrameLaw.{lemma_at}
use Rattle.frame_solver.proofs.known_steps.first_bar.Given as goal

abbrev pub invariant-lemmas : goal.invariant-lemmas
invariant-lemmas l =
    (n : ℕ) → n < l.k → l.least ≤ (lemma_at l.lemmas n).level → ClauseTrue (assignment_of l.values) (lemma_at l.lemmas n).clause
