use Rattle.std.proofs.Common.{◌≡◌, ◌-◌, ◌∙◌, List, sym, subst}
use Rattle.clause_core.specs.declared.literal.Lit.{Lit}
use Rattle.frame_core.specs.declared.parts.Parent.{Parent}
use Rattle.frame_core.specs.Facts.{IsPart}
use Rattle.frame_core.specs.FrameLaw.{AllStand}
use Rattle.frame_solver.specs.Stepping.{Ends}
use Rattle.frame_query.proofs.attempting.shown_by_draft.Goals as goal

pub returns : goal.returns
returns c = λ sys lemmas level d b over ends is_part meets met.
    let draft = c.args.draft.now in
    let E : List Parent → Type 0 = λ ps. Ends sys level d ps draft.part.items in
    let F : List Lit → Type 0 = λ ls. Ends sys level d c.in_ok-parents.parents.items ls in
    let P : List Lit → Type 0 = λ ls. IsPart ls d in
    let S : List Parent → Type 0 = AllStand lemmas (level - 1) in
    let parents : c.in_ok-parents.parents.items ≡ draft.parents.items = c.in_ok-parents.ensures ∙ c.deref.ensures.value in
    let part : c.in_ok-part.part.items ≡ draft.part.items = c.in_ok-part.ensures.items ∙ c.deref-2.ensures.value in (
      subst F (sym part) (subst E (sym parents) ends),
      subst P (sym part) is_part,
      meets,
      met,
      (λ stand. subst S (sym parents) stand),
    )
