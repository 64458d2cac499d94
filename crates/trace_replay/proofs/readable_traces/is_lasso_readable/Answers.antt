-- The law.
use Rattle.trace_replay.proofs.Readable.{lasso_readable}
use Rattle.trace_replay.proofs.readable_traces.is_lasso_readable.Goals as goal

pub returns : goal.returns
returns c = λ p number w is small few types held_named given_named. lasso_readable p w is number small few types held_named given_named
