use Rattle.std.proofs.Common.{subst}
use Rattle.frame_core.specs.FrameLaw.{FrameState}
use Rattle.book_agenda.specs.Values.{AreBlocked}
use Rattle.book_agenda.proofs.levels.Levels.follow.Goals as goal

pub returns : goal.returns
returns c = (
  c.self.inside.blocked.items,
  subst (λ (f : FrameState). AreBlocked f.lemmas f.obligations c.self.inside.blocked.items) c.self.view_is c.self.invariant.follow,
)
