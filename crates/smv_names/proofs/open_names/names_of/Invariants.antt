-- What stands there and what is to come are all.
use Rattle.std.proofs.Common.{◌≡◌, ◌++◌, drop}
use Rattle.std.specs.List.{flat_map}
use Rattle.smv_tree.specs.Occurring.{names_in, read}
use Rattle.smv_names.proofs.open_names.names_of.Given as goal

abbrev pub invariant-loop-e : goal.invariant-loop-e
invariant-loop-e l = read l.all.items ++ flat_map names_in (read (drop l.e-index l.expressions)) ≡ flat_map names_in (read l.expressions)
