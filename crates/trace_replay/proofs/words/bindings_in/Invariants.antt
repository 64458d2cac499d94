-- The bindings so far, and those that the words that are left are.
use Rattle.std.proofs.Common.{◌≡◌, ◌*◌, drop}
use Rattle.trace_replay.specs.Words.{bindings_in}
use Rattle.trace_replay.proofs.OfWords.{behind}
use Rattle.trace_replay.proofs.words.bindings_in.Given as goal

abbrev pub invariant-loop-i : goal.invariant-loop-i
invariant-loop-i l = behind l.bindings.items (bindings_in (drop (3 * l.i) l.words)) ≡ bindings_in l.words
