-- What stands there and what is to come are all.
use Rattle.std.proofs.Common.{◌≡◌, ◌++◌, drop}
use Rattle.std.specs.List.{flat_map}
use Rattle.smv_names.specs.Expressions.{in_variable}
use Rattle.smv_tree.specs.Occurring.{read}
use Rattle.smv_names.proofs.expressions.push_in_variables.Given as goal

abbrev pub invariant-loop-variable : goal.invariant-loop-variable
invariant-loop-variable l = read l.all.items ++ flat_map in_variable (drop l.variable-index l.variables) ≡ read l.initial.all.items ++ flat_map in_variable l.variables
