-- So many numbers have no trace.
use Rattle.std.proofs.Common.{◌≡◌, replicate, None}
use Rattle.trace_replay.proofs.reading.nothing_read.Given as goal

abbrev pub invariant-loop : goal.invariant-loop
invariant-loop l = l.done.items ≡ replicate l.counter None
