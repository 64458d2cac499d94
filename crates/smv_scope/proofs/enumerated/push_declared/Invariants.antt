-- What stands there and what is to come are all.
use Rattle.std.proofs.Common.{◌≡◌, ◌++◌, drop}
use Rattle.std.specs.List.{flat_map}
use Rattle.smv_tree.specs.declared.tree.Variable.{Variable}
use Rattle.smv_scope.specs.Enumerated.{symbols_in_type}
use Rattle.smv_scope.proofs.enumerated.push_declared.Given as goal

abbrev pub invariant-loop-variable : goal.invariant-loop-variable
invariant-loop-variable l = l.all ++ flat_map (λ (v : Variable). symbols_in_type v.declared) (drop l.variable-index l.variables)
    ≡ l.initial.all ++ flat_map (λ (v : Variable). symbols_in_type v.declared) l.variables
