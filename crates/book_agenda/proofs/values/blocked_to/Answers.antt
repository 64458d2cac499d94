use Rattle.std.proofs.Common.{List, length, subst}
use Rattle.clause_core.specs.Assignments.{assignment_of}
use Rattle.frame_core.specs.declared.parts.Lemma.{Lemma}
use Rattle.book_agenda.specs.Values.{IsBlockedLive}
use Rattle.book_agenda.proofs.Retired.{blocked_all}
use Rattle.book_agenda.proofs.values.blocked_to.Goals as goal

pub returns : goal.returns
returns c =
    let P : List Lemma → Type 0 = λ ls. IsBlockedLive ls (length ls) c.blocked_live.result (assignment_of c.args.values.now) in
    blocked_all c.args.frames.now c.all_lemmas.ensures.law (assignment_of c.args.values.now) c.blocked_live.result
    (subst P c.all_lemmas.ensures.value c.blocked_live.ensures)
