-- The cells so far, and those that are left.
use Rattle.std.proofs.Common.{◌≡◌, ◌++◌, drop, string_bytes}
use Rattle.trace_table.specs.Table.{cells_text}
use Rattle.trace_table.proofs.table.write_cells.Given as goal

abbrev pub invariant-loop-i : goal.invariant-loop-i
invariant-loop-i l = string_bytes l.out ++ cells_text l.rows l.j l.i (drop l.i l.widths) ≡ string_bytes l.initial.out ++ cells_text l.rows l.j 0 l.widths
