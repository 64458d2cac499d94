-- Those that are open say what all so far do.
use Rattle.std.proofs.Common.{take}
use Rattle.smv_tree.specs.Occurring.{read}
use Rattle.smv_names.specs.OpenNames.{SayAll}
use Rattle.smv_names.proofs.open_names.open_among.Given as goal

abbrev pub invariant-loop-name : goal.invariant-loop-name
invariant-loop-name l = SayAll l.scope.program l.from (read (take l.name-index l.names)) (read l.again.items)
