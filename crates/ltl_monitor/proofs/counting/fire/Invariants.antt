use Rattle.std.proofs.Common.{◌≡◌}
use Rattle.ltl_monitor.specs.Counting.{fired}
use Rattle.ltl_monitor.proofs.counting.fire.Given as goal

abbrev pub invariant-loop-j : goal.invariant-loop-j
invariant-loop-j l = record { draft = l.draft; lit = l.signal } ≡ fired l.layout l.sets l.j record { draft = l.initial.draft; lit = l.fn.none }
