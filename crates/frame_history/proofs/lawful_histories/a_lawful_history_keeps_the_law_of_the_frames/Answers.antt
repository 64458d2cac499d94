use Rattle.frame_history.specs.History.{start}
use Rattle.frame_history.proofs.Keeping.{keeps_history, holds_at_start}
use Rattle.frame_history.proofs.lawful_histories.a_lawful_history_keeps_the_law_of_the_frames.Goals as goal

pub returns : goal.returns
returns c = λ limits systems carried history are lawful n.
    keeps_history limits (start limits systems carried) history (holds_at_start systems carried are) lawful n
