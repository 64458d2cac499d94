-- The variables so far.
use Rattle.std.proofs.Common.{◌≡◌, ◌++◌, map, take}
use Rattle.smv_tree.specs.declared.tree.Variable.{Variable}
use Rattle.smv_scope.proofs.Variables.{lent}
use Rattle.smv_scope.proofs.modules.push_variables.Given as goal

abbrev pub invariant-loop-variable : goal.invariant-loop-variable
invariant-loop-variable l = lent l.all.items ≡ lent l.initial.all.items ++ map (λ (v : Variable). (l.kind, v)) (take l.variable-index l.variables)
