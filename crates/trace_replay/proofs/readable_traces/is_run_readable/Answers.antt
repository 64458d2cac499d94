-- The law.
use Rattle.trace_replay.proofs.Readable.{run_readable}
use Rattle.trace_replay.proofs.readable_traces.is_run_readable.Goals as goal

pub returns : goal.returns
returns c = λ p number states inputs run small few types held_named given_named. run_readable p states inputs run number small few types held_named given_named
