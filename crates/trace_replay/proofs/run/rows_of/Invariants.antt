-- The rows so far.
use Rattle.std.proofs.Common.{◌≡◌, map, take}
use Rattle.trace_replay.specs.Rows.{bindings_of, terms_of}
use Rattle.trace_replay.proofs.run.rows_of.Given as goal

abbrev pub invariant-loop-row : goal.invariant-loop-row
invariant-loop-row l = l.rows.items ≡ map (bindings_of (terms_of l.typed.scope.program) l.columns) (take l.row-index l.values)
