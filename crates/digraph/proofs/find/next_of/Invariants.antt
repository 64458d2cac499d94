-- The nodes so far are finished.
use Rattle.std.proofs.Common.{All, take}
use Rattle.digraph.specs.Search.{IsDone, mark}
use Rattle.digraph.proofs.find.next_of.Given as goal

abbrev pub invariant-loop-i : goal.invariant-loop-i
invariant-loop-i l = All (λ v. IsDone (mark l.marks v)) (take l.i l.vs)
