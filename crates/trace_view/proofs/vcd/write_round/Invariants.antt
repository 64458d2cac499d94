-- The states so far, and those that are left.
use Rattle.std.proofs.Common.{◌≡◌, ◌++◌, drop, string_bytes}
use Rattle.trace_view.specs.Vcd.{round_text}
use Rattle.trace_view.proofs.vcd.write_round.Given as goal

abbrev pub invariant-loop-k : goal.invariant-loop-k
invariant-loop-k l =
    string_bytes l.out ++ round_text l.trace l.kinds l.time l.first l.start l.k (drop l.k (drop l.start l.trace.states))
    ≡ string_bytes l.initial.out ++ round_text l.trace l.kinds l.time l.first l.start 0 (drop l.start l.trace.states)
