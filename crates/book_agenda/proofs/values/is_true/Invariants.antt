use Rattle.std.proofs.Common.{◌≡◌, ℕ, ◌<◌}
use Rattle.clause_core.specs.Literals.{at}
use Rattle.clause_core.specs.Assignments.{assignment_of}
use Rattle.book_agenda.proofs.values.is_true.Given as goal

abbrev pub invariant-loop-l : goal.invariant-loop-l
invariant-loop-l l =
    (k : ℕ) → k < l.l-index → assignment_of l.values (at l.clause k).var ≡ (at l.clause k).positive → ⊥
