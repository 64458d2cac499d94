-- What is left of the path leads where all of it does.
use Rattle.std.proofs.Common.{◌≡◌, drop}
use Rattle.smv_meaning.specs.Paths.{instance_at, instance_from}
use Rattle.smv_meaning.proofs.evaluation.instance_at.Given as goal

abbrev pub invariant-loop-name : goal.invariant-loop-name
invariant-loop-name l = instance_from l.typed.scope.program (drop l.name-index l.path) l.at ≡ instance_at l.typed.scope.program l.path
