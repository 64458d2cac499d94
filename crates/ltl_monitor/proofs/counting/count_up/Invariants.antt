use Rattle.std.proofs.Common.{◌≡◌}
use Rattle.ltl_monitor.specs.Counting.{counted_up}
use Rattle.ltl_monitor.proofs.counting.count_up.Given as goal

abbrev pub invariant-loop-j : goal.invariant-loop-j
invariant-loop-j l = record { draft = l.draft; lit = l.reached } ≡ counted_up l.layout l.sets l.signal l.j record { draft = l.initial.draft; lit = l.fn.yes }
