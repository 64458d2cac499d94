-- The kind of the values so far, and of those that are left.
use Rattle.std.proofs.Common.{◌≡◌, drop}
use Rattle.trace_table.specs.Kinds.{column_from, column_kind}
use Rattle.trace_table.proofs.kinds.column_kind.Given as goal

abbrev pub invariant-loop-row : goal.invariant-loop-row
invariant-loop-row l = column_from l.kind l.j (drop l.row-index l.rows) ≡ column_kind l.rows l.j
