use Rattle.std.proofs.Common.{ap, ◌∙◌}
use Rattle.frame_core.specs.FrameLaw.{FrameState, top_at}
use Rattle.frame_history.specs.declared.entries.Subject.TheVariants.{Bad}
use Rattle.frame_book.specs.Picking.{IsLevelOf}
use Rattle.frame_book.proofs.Turning.{up_to_task}
use Rattle.frame_book.proofs.picking.bad_task.Goals as goal

pub is_new-requires : goal.is_new-requires
is_new-requires c =
    let is : IsLevelOf c.args.levels.now (Bad c.args.j) c.top-top.result =
    c.top-top.ensures.value ∙ ap (λ (f : FrameState). top_at f.tops c.args.j) c.frames.ensures in
    up_to_task c.args.levels.now c.args.register.now (Bad c.args.j) c.top-top.result c.requires.sane is
