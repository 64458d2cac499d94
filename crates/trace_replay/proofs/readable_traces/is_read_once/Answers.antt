-- The laws.
use Rattle.trace_replay.proofs.LawsOfReading.{held_once, held_or_refused, printed_held}
use Rattle.trace_replay.proofs.readable_traces.is_read_once.Goals as goal

pub returns : goal.returns
returns c = record { once = held_once; apart = held_or_refused; back = printed_held }
