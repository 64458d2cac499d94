-- None of the traces so far is of this specification.
use Rattle.std.proofs.Common.{◌≡◌, eqb, drop, find}
use Rattle.trace_lines.specs.declared.trace.Trace.{Trace}
use Rattle.trace_view.proofs.answer.found.Given as goal

abbrev pub invariant-loop-trace : goal.invariant-loop-trace
invariant-loop-trace l = find (λ (t : Trace). eqb t.spec l.spec) (drop l.trace-index l.traces) ≡ find (λ (t : Trace). eqb t.spec l.spec) l.traces
