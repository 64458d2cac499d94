use Rattle.std.proofs.Common.{List, sym, ap}
use Rattle.clause_core.specs.Systems.{TransitionSystem}
use Rattle.frame_core.specs.FrameLaw.{system_at}
use Rattle.frame_core.proofs.States.{cut_same}
use Rattle.frame_tests.proofs.frames.carries.Goals as goal

pub carry-later-requires-clause-cut : goal.carry-later-requires-clause-cut
carry-later-requires-clause-cut c = cut_same _ _ (ap (λ (z : List TransitionSystem). system_at z 0) (sym c.systems-same.ensures.value))
