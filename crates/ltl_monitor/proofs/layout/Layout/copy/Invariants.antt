use Rattle.std.proofs.Common.{◌≡◌, ◌++◌, take}
use Rattle.ltl_monitor.specs.Drafting.{all_moved}
use Rattle.ltl_monitor.proofs.layout.Layout.copy.Given as goal

abbrev pub invariant-loop-k : goal.invariant-loop-k
invariant-loop-k l = l.into ≡ l.initial.into ++ all_moved l.self l.space (take l.k l.clauses)
