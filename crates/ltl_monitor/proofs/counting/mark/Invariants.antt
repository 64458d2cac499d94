use Rattle.std.proofs.Common.{◌≡◌}
use Rattle.ltl_monitor.specs.Counting.{marked}
use Rattle.ltl_monitor.proofs.counting.mark.Given as goal

abbrev pub invariant-loop-j : goal.invariant-loop-j
invariant-loop-j l = l.draft ≡ marked l.layout l.signal l.sets l.j l.initial.draft
