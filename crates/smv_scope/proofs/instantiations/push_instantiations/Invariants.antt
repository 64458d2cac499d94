-- What stands there and what is to come are all.
use Rattle.std.proofs.Common.{◌≡◌, ℕ, ◌++◌, drop}
use Rattle.smv_scope.specs.Instances.{children_from}
use Rattle.smv_scope.specs.Instantiations.{instances_by}
use Rattle.smv_scope.proofs.Variables.{lent}
use Rattle.smv_scope.proofs.instantiations.push_instantiations.Given as goal

abbrev pub invariant-loop-v : goal.invariant-loop-v
invariant-loop-v l =
    (at : ℕ) → instances_by at l.list ++ children_from l.program.modules at l.v (lent (drop l.v l.variables))
    ≡ instances_by at l.initial.list ++ children_from l.program.modules at 0 (lent l.variables)
