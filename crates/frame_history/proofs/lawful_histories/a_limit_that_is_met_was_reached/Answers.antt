use Rattle.frame_history.proofs.Limiting.{limit_reached}
use Rattle.frame_history.proofs.lawful_histories.a_limit_that_is_met_was_reached.Goals as goal

pub returns : goal.returns
returns c = λ limits systems carried history are lawful j lt on. limit_reached limits systems carried history are lawful j lt on
