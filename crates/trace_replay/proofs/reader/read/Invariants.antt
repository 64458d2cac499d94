-- What the lines so far say.
use Rattle.std.proofs.Common.{take}
use Rattle.trace_replay.specs.Reading.{texts}
use Rattle.trace_replay.specs.Steps.{IsRead}
use Rattle.trace_replay.proofs.reader.read.Given as goal

abbrev pub invariant-loop-line : goal.invariant-loop-line
invariant-loop-line l = IsRead l.specs (take l.line-index (texts l.lines)) l.reading
