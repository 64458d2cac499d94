-- Those that are open say what all so far do.
use Rattle.std.proofs.Common.{take}
use Rattle.smv_declared.specs.Closed.{SayAll, read}
use Rattle.smv_declared.proofs.judged.open_among.Given as goal

abbrev pub invariant-loop-x : goal.invariant-loop-x
invariant-loop-x l = SayAll l.scope.program l.from (read (take l.x-index l.all)) (read l.again.items)
