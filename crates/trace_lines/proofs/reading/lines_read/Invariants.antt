-- What the lines so far and those that are left add.
use Rattle.std.proofs.Common.{◌≡◌, drop, map}
use Rattle.trace_lines.specs.Reading.{lines_read, nothing_read}
use Rattle.trace_lines.proofs.reading.lines_read.Given as goal

abbrev pub invariant-loop-i : goal.invariant-loop-i
invariant-loop-i l = lines_read l.i l.reading (drop l.i (map (λ x. x.now) l.lines)) ≡ lines_read 0 nothing_read (map (λ x. x.now) l.lines)
