-- The tables so far, and those that are left.
use Rattle.std.proofs.Common.{◌≡◌, ◌++◌, drop, string_bytes}
use Rattle.trace_table.specs.Table.{more_tables}
use Rattle.trace_table.proofs.table.write_more.Given as goal

abbrev pub invariant-loop-trace : goal.invariant-loop-trace
invariant-loop-trace l = string_bytes l.out ++ more_tables (drop l.trace-index l.traces) ≡ string_bytes l.initial.out ++ more_tables l.traces
