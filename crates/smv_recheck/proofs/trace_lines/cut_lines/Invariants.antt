-- The lines of traces so far are found.
use Rattle.std.proofs.Common.{◌≡◌, ◌+◌, ◌++◌, drop, map}
use Rattle.smv_recheck.specs.Lines.{trace_lines_from}
use Rattle.smv_recheck.proofs.trace_lines.cut_lines.Given as goal

abbrev pub invariant-loop-i : goal.invariant-loop-i
invariant-loop-i l = trace_lines_from 1 (map (λ x. x.now) l.lines) ≡ l.found.items ++ trace_lines_from (l.i + 1) (drop l.i (map (λ x. x.now) l.lines))
