use Rattle.std.proofs.Common.{◌≡◌, ◌⊎◌, inl, inr, length, ap, subst, ◌∙◌, arith, below_more}
use Rattle.frame_core.specs.FrameLaw.{FrameState, FramesHold}
use Rattle.frame_history.specs.History.{BookState, IsDecided}
use Rattle.frame_book.specs.Pages.{state_of}
use Rattle.frame_book.specs.Picking.{HasNoTask}
use Rattle.frame_book.proofs.Picked.{picked}
use Rattle.frame_book.proofs.picking.pick.Goals as goal

pub loop-j-preserved-then-is_decided : goal.loop-j-preserved-then-is_decided
loop-j-preserved-then-is_decided c =
    let s : BookState = state_of c.args.levels.now c.args.register.now c.args.marks.now in
    below_more (λ k. IsDecided s k ⊎ HasNoTask c.args.limits s k) c.loop-j.j c.loop-j.invariant (inl (c.is_decided.ensures.value.0 c.if-is_decided.true))

pub loop-j-preserved : goal.loop-j-preserved
loop-j-preserved c =
    let s : BookState = state_of c.args.levels.now c.args.register.now c.args.marks.now in
    below_more (λ k. IsDecided s k ⊎ HasNoTask c.args.limits s k) c.loop-j.j c.loop-j.invariant (inr c.in_default-task_of.ensures)

pub returns : goal.returns
returns c =
    let s : BookState = state_of c.args.levels.now c.args.register.now c.args.marks.now in
    let law : FramesHold s.frames = subst FramesHold c.frames.ensures c.systems-systems.ensures.law in
    let many : length c.systems-systems.result.now ≡ length s.frames.systems =
    ap length c.systems-systems.ensures.value ∙ ap (λ (f : FrameState). length f.systems) c.frames.ensures in
    let test = c.loop-j-test.false in
    picked c.args.limits s c.push_of.result law (λ k lt. c.loop-j.invariant k (omega (arith, lt, many, test))) c.push_of.ensures
