-- The names and types so far.
use Rattle.std.proofs.Common.{◌≡◌, map, take}
use Rattle.trace_replay.specs.Rows.{column_of}
use Rattle.trace_replay.proofs.columns.columns_of.Given as goal

abbrev pub invariant-loop-slot : goal.invariant-loop-slot
invariant-loop-slot l = l.columns.items ≡ map (column_of l.typed.scope.program) (take l.slot-index l.slots)
