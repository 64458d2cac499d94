-- The edges so far, and those of the states that are left.
use Rattle.std.proofs.Common.{◌≡◌, ◌++◌, drop, string_bytes}
use Rattle.trace_view.specs.Svg.{edges_text}
use Rattle.trace_view.proofs.svg.write_edges.Given as goal

abbrev pub invariant-loop-i : goal.invariant-loop-i
invariant-loop-i l = string_bytes l.out ++ edges_text l.rows l.grid l.y l.j l.i (drop l.i l.states) ≡ string_bytes l.initial.out ++ edges_text l.rows l.grid l.y l.j 0 l.states
