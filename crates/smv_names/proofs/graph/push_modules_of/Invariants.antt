-- The types of the variables so far.
use Rattle.std.proofs.Common.{◌≡◌, ◌++◌, take}
use Rattle.std.specs.List.{flat_map}
use Rattle.smv_names.specs.Reached.{module_of_variable}
use Rattle.smv_names.proofs.graph.push_modules_of.Given as goal

abbrev pub invariant-loop-variable : goal.invariant-loop-variable
invariant-loop-variable l = l.used.items ≡ l.initial.used.items ++ flat_map (module_of_variable l.modules) (take l.variable-index l.variables)
