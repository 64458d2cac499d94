use Rattle.std.proofs.Common.{take}
use Rattle.frame_history.specs.History.{start, replay}
use Rattle.frame_history.proofs.Keeping.{keeps_history, holds_at_start, same_systems, lemmas_hold}
use Rattle.frame_history.proofs.lawful_histories.lemmas_hold_in_reached_states.Goals as goal

pub returns : goal.returns
returns c = λ limits systems carried history are lawful n.
    lemmas_hold systems (replay (start limits systems carried) (take n history)).frames (same_systems (start limits systems carried) (take n history))
    (keeps_history limits (start limits systems carried) history (holds_at_start systems carried are) lawful n)
