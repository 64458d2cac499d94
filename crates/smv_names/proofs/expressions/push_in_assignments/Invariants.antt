-- What stands there and what is to come are all.
use Rattle.std.proofs.Common.{◌≡◌, ◌++◌, drop}
use Rattle.std.specs.List.{flat_map}
use Rattle.smv_names.specs.Expressions.{in_assignment}
use Rattle.smv_tree.specs.Occurring.{read}
use Rattle.smv_names.proofs.expressions.push_in_assignments.Given as goal

abbrev pub invariant-loop-assignment : goal.invariant-loop-assignment
invariant-loop-assignment l = read l.all.items ++ flat_map in_assignment (drop l.assignment-index l.assignments) ≡ read l.initial.all.items ++ flat_map in_assignment l.assignments
