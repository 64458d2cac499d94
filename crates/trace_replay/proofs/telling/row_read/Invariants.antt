-- The values so far, and those that are left.
use Rattle.std.proofs.Common.{◌≡◌, drop}
use Rattle.trace_replay.specs.Rows.{row_read, terms_of}
use Rattle.trace_replay.proofs.OfTelling.{behind}
use Rattle.trace_replay.proofs.telling.row_read.Given as goal

abbrev pub invariant-loop-i : goal.invariant-loop-i
invariant-loop-i l = behind l.values.items (row_read (terms_of l.typed.scope.program) (drop l.i l.columns) (drop l.i l.bindings)) ≡ row_read (terms_of l.typed.scope.program) l.columns l.bindings
