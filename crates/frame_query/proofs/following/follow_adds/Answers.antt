use Rattle.std.proofs.Common.{◌++◌, ◌∷◌, [], ◌∙◌, length, take, ap, arith, sym, length-append}
use Rattle.std.proofs.lemmas.List.{take_more, take_all}
use Rattle.frame_core.specs.FrameLaw.{no_lemma}
use Rattle.frame_query.proofs.following.follow_adds.Goals as goal

pub lemmas-init : goal.lemmas-init
lemmas-init c = (c.requires ∙ ap (λ k. take k c.args.lemmas.now) (sym c.len-n.ensures), sym c.len-n.ensures, omega (arith, c.len-n.ensures))

pub lemmas-preserved : goal.lemmas-preserved
lemmas-preserved c =
    let lemmas = c.args.lemmas.now in
    let n = c.lemmas.n in
    let inv = c.lemmas.invariant in
    let done = c.in_ok-add_copy.ensures.done in
    let more = take_more lemmas n no_lemma (omega (arith, c.lemmas-test.true)) in (
      done ∙ ap (λ xs. xs ++ c.lemma.result.now ∷ []) inv.0 ∙ ap (λ x. take n lemmas ++ x ∷ []) c.lemma.ensures ∙ sym more,
      omega (arith, ap length done, length-append c.lemmas.copy (c.lemma.result.now ∷ []), inv.1),
      omega (arith, inv.2),
    )

pub returns-in_err-add_copy-clause-part : goal.returns-in_err-add_copy-clause-part
returns-in_err-add_copy-clause-part c =
    let inv = c.lemmas.invariant in
    let same = c.in_err-add_copy.ensures.failed in
    same ∙ inv.0 ∙ ap (λ k. take k c.args.lemmas.now) (sym inv.1) ∙ ap (λ xs. take (length xs) c.args.lemmas.now) (sym same)

pub returns-in_err-add_copy-clause-more : goal.returns-in_err-add_copy-clause-more
returns-in_err-add_copy-clause-more c = omega (arith, ap length c.in_err-add_copy.ensures.failed, c.lemmas.invariant.1, c.lemmas.invariant.2)

pub returns-clause-done : goal.returns-clause-done
returns-clause-done c = c.lemmas.invariant.0 ∙ take_all c.lemmas.n c.args.lemmas.now (omega (arith, c.lemmas-test.false))

pub returns-clause-part : goal.returns-clause-part
returns-clause-part c = c.lemmas.invariant.0 ∙ ap (λ k. take k c.args.lemmas.now) (sym c.lemmas.invariant.1)

pub returns-clause-more : goal.returns-clause-more
returns-clause-more c = omega (arith, c.lemmas.invariant.1, c.lemmas.invariant.2)
