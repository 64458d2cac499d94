-- The bindings so far, and those that the pieces that are left are.
use Rattle.std.proofs.Common.{◌≡◌, drop, map}
use Rattle.trace_lines.specs.Lines.{bindings_of}
use Rattle.trace_lines.proofs.OfEntries.{behind}
use Rattle.trace_lines.proofs.entry.bindings_of.Given as goal

abbrev pub invariant-loop-piece : goal.invariant-loop-piece
invariant-loop-piece l = behind l.row.items (bindings_of (drop l.piece-index (map (λ x. x.now) l.pieces))) ≡ bindings_of (map (λ x. x.now) l.pieces)
