use Rattle.std.proofs.Common.{◌≡◌, ◌+◌, ℕ, [], length, replicate, sym, ap, subst, ◌∙◌}
use Rattle.std.specs.Prelude.{vec_capacity}
use Rattle.frame_core.specs.FrameLaw.{FrameState, FramesHold}
use Rattle.frame_book.specs.Book.{BookView}
use Rattle.frame_book.specs.Pages.{ArePages}
use Rattle.frame_book.proofs.Opening.{unmarked, is_opened, opened_pages}
use Rattle.frame_book.proofs.pages.Pages.new.Goals as goal

pub invariant_of-result : goal.invariant_of-result
invariant_of-result c =
    let f : FrameState = c.args.frames in
    let g : FrameState = c.of.result in
    let is : g ≡ f = c.of.ensures in
    let law : FramesHold f = c.all_lemmas.ensures.law in
    let law' : FramesHold g = subst FramesHold (sym is) law in
    let none : g.obligations ≡ [] = ap (λ (z : FrameState). z.obligations) is ∙ c.requires.obligations in
    let low : g.tops ≡ replicate (length g.systems) 0 = subst (λ (z : FrameState). z.tops ≡ replicate (length z.systems) 0) (sym is) c.requires.tops in
    let carried : c.in_ok-carried.carried ≡ g.lemmas = c.in_ok-carried.ensures ∙ c.all_lemmas.ensures.value ∙ ap (λ (z : FrameState). z.lemmas) (sym is) in
    let systems : length c.systems-systems.result.now ≡ length g.systems =
    ap length c.systems-systems.ensures.value ∙ ap (λ (z : FrameState). length z.systems) (sym is) in
    let marks : c.in_ok-marks.marks ≡ unmarked c.args.limits (length g.systems) = c.in_ok-marks.ensures ∙ ap (unmarked c.args.limits) systems in
    let view = is_opened g c.args.limits c.in_ok-carried.carried c.new-2.result.items c.new-3.result c.in_ok-marks.marks none low carried c.new-2.ensures.items c.new-3.ensures marks in
    subst (λ (z : BookView). ArePages z (vec_capacity c.new-2.result) c.new-4.result) (sym view)
    (opened_pages g c.args.limits (vec_capacity c.new-2.result) c.new-4.result law' none low c.requires.limits (c.new-4.ensures.size ∙ ap (λ (n : ℕ). n + 1) systems))
