-- The times so far, and those that are left.
use Rattle.std.proofs.Common.{◌≡◌, ◌++◌, drop, string_bytes}
use Rattle.trace_table.specs.Table.{times_text}
use Rattle.trace_table.proofs.table.write_times.Given as goal

abbrev pub invariant-loop-i : goal.invariant-loop-i
invariant-loop-i l = string_bytes l.out ++ times_text l.trace l.i (drop l.i l.widths) ≡ string_bytes l.initial.out ++ times_text l.trace 0 l.widths
