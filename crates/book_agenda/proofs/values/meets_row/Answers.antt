use Rattle.std.proofs.Common.{sym, subst}
use Rattle.clause_core.specs.Assignments.{assignment_of}
use Rattle.frame_core.specs.declared.parts.Lemma.{Lemma}
use Rattle.book_agenda.specs.Values.{MeetsAt}
use Rattle.book_agenda.proofs.values.meets_row.Goals as goal

pub returns-else-n-len : goal.returns-else-n-len
returns-else-n-len c =
    let P : Lemma → Type 0 = λ z. MeetsAt z c.args.level (assignment_of c.args.values.now) in
    let e = c.meets_at.ensures in
    ((λ t. subst P c.lemma.ensures (e.0 t)), (λ met. e.1 (subst P (sym c.lemma.ensures) met)))
