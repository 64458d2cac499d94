-- The rows so far, and those that are left.
use Rattle.std.proofs.Common.{◌≡◌, ◌++◌, drop, string_bytes}
use Rattle.trace_lines.specs.Reading.{head_row}
use Rattle.trace_table.specs.Table.{rows_text}
use Rattle.trace_table.proofs.table.write_rows.Given as goal

abbrev pub invariant-loop-j : goal.invariant-loop-j
invariant-loop-j l =
    string_bytes l.out ++ rows_text l.first l.widths l.rows l.j (drop l.j (head_row l.rows)) ≡ string_bytes l.initial.out ++ rows_text l.first l.widths l.rows 0 (head_row l.rows)
