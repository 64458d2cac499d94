-- The kinds so far, and those of the columns that are left.
use Rattle.std.proofs.Common.{◌≡◌, ◌++◌, drop}
use Rattle.trace_table.specs.Kinds.{kinds_from}
use Rattle.trace_lines.specs.Reading.{head_row}
use Rattle.trace_table.proofs.kinds.column_kinds.Given as goal

abbrev pub invariant-loop-j : goal.invariant-loop-j
invariant-loop-j l = l.kinds.items ++ kinds_from l.rows l.j (drop l.j (head_row l.rows)) ≡ kinds_from l.rows 0 (head_row l.rows)
