-- The widths so far, and those of the states that are left.
use Rattle.std.proofs.Common.{◌≡◌, ◌++◌, drop}
use Rattle.trace_table.specs.Table.{widths_from}
use Rattle.trace_table.proofs.table.widths.Given as goal

abbrev pub invariant-loop-i : goal.invariant-loop-i
invariant-loop-i l = l.widths.items ++ widths_from l.trace l.i (drop l.i l.trace.states) ≡ widths_from l.trace 0 l.trace.states
