-- What is broken is one more, and its number is kept.
use Rattle.std.proofs.Common.{◌∙◌, ◌++◌, [], ◌∷◌, ap}
use Rattle.smv_types.proofs.Briefs.{one_broken, there_before, there_behind}
use Rattle.smv_types.proofs.judged_list.JudgedList.push_broken.Goals as goal

pub invariant_of-self-in_err-push-2 : goal.invariant_of-self-in_err-push-2
invariant_of-self-in_err-push-2 c =
    rw (c.in_err-push-2.ensures.items, c.in_ok-push.ensures.items, c.broken_of.ensures) (there_before c.self.inside.broken.items c.self.inside.briefs.items c.args.judged c.self.invariant)

pub invariant_of-self-2 : goal.invariant_of-self-2
invariant_of-self-2 c =
    rw (c.in_ok-push-2.ensures.items, c.in_ok-push.ensures.items, c.broken_of.ensures, c.brief_of.ensures, c.as_slice-number.ensures.value)
    (there_behind c.self.inside.broken.items c.self.inside.briefs.items c.args.judged c.self.invariant)

pub returns : goal.returns
returns c =
    rw (c.in_ok-push-2.ensures.items, c.in_ok-push.ensures.items, c.broken_of.ensures, c.brief_of.ensures, c.as_slice-number.ensures.value)
    (one_broken c.self.inside.broken.items c.self.inside.briefs.items c.args.judged c.self.invariant ∙ ap (λ xs. xs ++ c.args.judged ∷ []) c.self.view_is)
