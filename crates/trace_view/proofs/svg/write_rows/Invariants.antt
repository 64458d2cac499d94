-- The rows so far, and those that are left.
use Rattle.std.proofs.Common.{◌≡◌, ◌++◌, drop, string_bytes}
use Rattle.trace_lines.specs.Reading.{head_row}
use Rattle.trace_view.specs.Svg.{rows_text}
use Rattle.trace_view.proofs.svg.write_rows.Given as goal

abbrev pub invariant-loop-j : goal.invariant-loop-j
invariant-loop-j l =
    string_bytes l.out ++ rows_text l.trace l.rows l.grid l.top l.j (drop l.j (head_row l.rows)) ≡ string_bytes l.initial.out ++ rows_text l.trace l.rows l.grid l.top 0 (head_row l.rows)
