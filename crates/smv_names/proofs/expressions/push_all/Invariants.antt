-- What stands there and what is to come are all.
use Rattle.std.proofs.Common.{◌≡◌, ◌++◌, drop}
use Rattle.smv_tree.specs.Occurring.{read}
use Rattle.smv_names.proofs.expressions.push_all.Given as goal

abbrev pub invariant-loop-e : goal.invariant-loop-e
invariant-loop-e l = read l.all.items ++ drop l.e-index l.expressions ≡ read l.initial.all.items ++ l.expressions
