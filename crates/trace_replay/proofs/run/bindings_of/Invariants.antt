-- The bindings so far, and those that are left.
use Rattle.std.proofs.Common.{◌≡◌, ◌++◌, drop}
use Rattle.trace_replay.specs.Rows.{bindings_of, terms_of}
use Rattle.trace_replay.proofs.run.bindings_of.Given as goal

abbrev pub invariant-loop-i : goal.invariant-loop-i
invariant-loop-i l = l.bindings.items ++ bindings_of (terms_of l.typed.scope.program) (drop l.i l.columns) (drop l.i l.values) ≡ bindings_of (terms_of l.typed.scope.program) l.columns l.values
