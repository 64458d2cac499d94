-- What stands there and what is to come are all.
use Rattle.std.proofs.Common.{◌≡◌, ◌++◌, drop}
use Rattle.std.specs.List.{flat_map}
use Rattle.smv_names.specs.Expressions.{in_dimension}
use Rattle.smv_tree.specs.Occurring.{read}
use Rattle.smv_names.proofs.expressions.push_in_dimensions.Given as goal

abbrev pub invariant-loop-dimension : goal.invariant-loop-dimension
invariant-loop-dimension l = read l.all.items ++ flat_map in_dimension (drop l.dimension-index l.dimensions) ≡ read l.initial.all.items ++ flat_map in_dimension l.dimensions
