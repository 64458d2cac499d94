-- What stands there and what is to come are all.
use Rattle.std.proofs.Common.{◌≡◌, ◌++◌, drop}
use Rattle.smv_tree.specs.Occurring.{read}
use Rattle.smv_names.proofs.open_names.push_all.Given as goal

abbrev pub invariant-loop-name : goal.invariant-loop-name
invariant-loop-name l = read l.all.items ++ read (drop l.name-index l.names) ≡ read l.initial.all.items ++ read l.names
