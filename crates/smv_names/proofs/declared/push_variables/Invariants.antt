-- The names of the variables so far.
use Rattle.std.proofs.Common.{◌≡◌, ◌++◌, map, take}
use Rattle.smv_tree.specs.declared.tree.Variable.{Variable}
use Rattle.smv_names.specs.Lent.{read_names}
use Rattle.smv_names.proofs.declared.push_variables.Given as goal

abbrev pub invariant-loop-variable : goal.invariant-loop-variable
invariant-loop-variable l =
    read_names l.names.items
    ≡ read_names l.initial.names.items ++ map (λ (v : Variable). (v.place, v.name)) (take l.variable-index l.variables)
