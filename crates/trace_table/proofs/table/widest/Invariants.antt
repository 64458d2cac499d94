-- The longest so far, and the longest of what is left.
use Rattle.std.proofs.Common.{◌≡◌, drop, max}
use Rattle.trace_table.specs.Table.{widest}
use Rattle.trace_table.proofs.table.widest.Given as goal

abbrev pub invariant-loop-j : goal.invariant-loop-j
invariant-loop-j l = max l.most (widest l.rows l.i l.j (drop l.j l.names)) ≡ widest l.rows l.i 0 l.names
