use Rattle.std.proofs.Common.{subst}
use Rattle.frame_core.specs.declared.outcomes.Opening.{Opening}
use Rattle.frame_core.specs.declared.outcomes.Opening.TheVariants as opening
use Rattle.frame_core.specs.Facts.{ClearLevel}
use Rattle.frame_core.specs.FrameLaw.{FrameState}
use Rattle.frame_core.specs.Changes.{OpensSame}
use Rattle.frame_book.proofs.Accepted.{opened_is}
use Rattle.frame_book.proofs.settling.clear.Goals as goal

pub returns-in-Opened-clause-done : goal.returns-in-Opened-clause-done
returns-in-Opened-clause-done c =
    let f : FrameState = c.args.levels.now in
    let k : ClearLevel = c.args.clear in
    let now : FrameState = c.open.new.self in
    let done : OpensSame f c.args.j k opening.Opened now = subst (λ (r : Opening). OpensSame f c.args.j k r now) c.in-Opened.is c.in-Ok.ensures.done in
    let r = opened_is f now c.args.made.now c.args.j k c.requires.subject c.requires.in_range c.requires.level c.requires.same c.into_parents-parents.ensures.shown done in
    record { accepted = r.0; tells = tt; changes = r.1 }
