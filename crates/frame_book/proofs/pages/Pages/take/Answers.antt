use Rattle.std.proofs.Common.{sym, subst}
use Rattle.frame_core.specs.FrameLaw.{FrameState}
use Rattle.frame_book.specs.Pages.{IsIn}
use Rattle.frame_book.proofs.Turning.{in_task}
use Rattle.frame_book.proofs.pages.Pages.take.Goals as goal

pub values_of-requires : goal.values_of-requires
values_of-requires c =
    let b = c.args.self.now in
    subst (λ (z : FrameState). IsIn z c.args.subject) (sym c.frames.ensures.value) (in_task b.limits b.state c.args.subject c.args.level c.requires.lawful.task)

pub clause_of-requires : goal.clause_of-requires
clause_of-requires c =
    let b = c.args.self.now in
    subst (λ (z : FrameState). IsIn z c.args.subject) (sym c.frames-2.ensures.value) (in_task b.limits b.state c.args.subject c.args.level c.requires.lawful.task)
