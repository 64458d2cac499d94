use Rattle.frame_history.proofs.Waiting.{some_is_out}
use Rattle.frame_history.proofs.lawful_histories.some_claim_is_out_where_none_may_be_made.Goals as goal

pub returns : goal.returns
returns c = λ limits systems carried history are lawful undecided none. some_is_out limits systems carried history are lawful undecided none
