-- The times so far, and those of the states that are left.
use Rattle.std.proofs.Common.{◌≡◌, ◌++◌, drop, string_bytes}
use Rattle.trace_view.specs.Svg.{times_text}
use Rattle.trace_view.proofs.svg.write_times.Given as goal

abbrev pub invariant-loop-i : goal.invariant-loop-i
invariant-loop-i l = string_bytes l.out ++ times_text l.trace l.grid l.i (drop l.i l.trace.states) ≡ string_bytes l.initial.out ++ times_text l.trace l.grid 0 l.trace.states
