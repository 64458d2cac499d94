-- The names so far are the same.
use Rattle.std.proofs.Common.{◌≡◌, drop}
use Rattle.trace_lines.specs.Reading.{names_match}
use Rattle.trace_lines.proofs.reading.names_match.Given as goal

abbrev pub invariant-loop-i : goal.invariant-loop-i
invariant-loop-i l = names_match (drop l.i l.xs) (drop l.i l.ys) ≡ names_match l.xs l.ys
