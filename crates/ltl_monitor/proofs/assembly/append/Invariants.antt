use Rattle.std.proofs.Common.{◌≡◌, ◌++◌, take}
use Rattle.ltl_monitor.proofs.assembly.append.Given as goal

abbrev pub invariant-loop-k : goal.invariant-loop-k
invariant-loop-k l = l.clauses ≡ l.initial.clauses ++ take l.k l.more
