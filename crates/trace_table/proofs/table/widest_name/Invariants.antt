-- The longest so far, and the longest of what is left.
use Rattle.std.proofs.Common.{◌≡◌, drop, max}
use Rattle.trace_table.specs.Table.{widest_name}
use Rattle.trace_table.proofs.table.widest_name.Given as goal

abbrev pub invariant-loop-b : goal.invariant-loop-b
invariant-loop-b l = max l.most (widest_name (drop l.b-index l.names)) ≡ widest_name l.names
