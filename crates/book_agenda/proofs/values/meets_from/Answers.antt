use Rattle.std.proofs.Common.{List, sym, subst}
use Rattle.clause_core.specs.Assignments.{assignment_of}
use Rattle.frame_core.specs.declared.parts.Lemma.{Lemma}
use Rattle.book_agenda.specs.Values.{MeetsLive}
use Rattle.book_agenda.proofs.Retired.{met_all}
use Rattle.book_agenda.proofs.values.meets_from.Goals as goal

pub returns : goal.returns
returns c =
    let P : List Lemma → Type 0 = λ ls. MeetsLive ls c.args.level (assignment_of c.args.values.now) in (
      (λ t. met_all c.args.frames.now c.all_lemmas.ensures.law (assignment_of c.args.values.now) c.args.level
          (subst P c.all_lemmas.ensures.value (c.meets_live.ensures.0 t))),
      (λ met. c.meets_live.ensures.1 (subst P (sym c.all_lemmas.ensures.value) (λ n lt on le. met n lt le))),
    )
