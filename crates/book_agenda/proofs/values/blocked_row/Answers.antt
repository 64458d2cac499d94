use Rattle.std.proofs.Common.{◌≡◌, ◌∙◌, ℕ, Bool, List, refl, inl, inr, ap, subst, arith}
use Rattle.std.proofs.lemmas.Bool.{cases_Bool}
use Rattle.clause_core.specs.Assignments.{assignment_of}
use Rattle.frame_core.specs.declared.parts.Lemma.{Lemma}
use Rattle.frame_core.specs.FrameLaw.{lemma_at}
use Rattle.book_agenda.specs.Values.{IsLifted}
use Rattle.book_agenda.proofs.Retired.{passed, lifted_more, met_one, none_left}
use Rattle.book_agenda.proofs.values.blocked_row.Goals as goal

pub returns-then-met : goal.returns-then-met
returns-then-met c =
    met_one c.args.lemmas.now c.args.n c.args.level c.args.level (assignment_of c.args.values.now) c.requires.before (c.requires.met c.if-met.true) refl

pub returns-then-n-len : goal.returns-then-n-len
returns-then-n-len c =
    let ls : List Lemma = c.args.lemmas.now in
    let n : ℕ = c.args.n in
    let x : ℕ → Bool = assignment_of c.args.values.now in
    let b : ℕ = c.lifted_live.result in
    let is : c.lemma.result.now ≡ lemma_at ls n = c.lemma.ensures in
    let live : c.lemma.result.now.live ≡ (lemma_at ls n).live = ap (λ (z : Lemma). z.live) is in
    elim (cases_Bool (lemma_at ls n).live) [
      | inl on ↦ lifted_more ls n c.args.level b x c.requires.before
          (subst (λ (z : Lemma). IsLifted z x c.args.level b) is (c.lifted_live.ensures.live (live ∙ on)))
      | inr off ↦ passed ls n c.args.level b x c.requires.before off (c.lifted_live.ensures.retired (live ∙ off))
    ]

pub returns-else-n-len : goal.returns-else-n-len
returns-else-n-len c = none_left c.args.lemmas.now c.args.n c.args.level (assignment_of c.args.values.now) (let past = c.if-n-len.false in let e = c.len.ensures in omega arith) c.requires.before
