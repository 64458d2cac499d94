-- What stands there and what is to come are all.
use Rattle.std.proofs.Common.{◌≡◌, ◌++◌, drop, map}
use Rattle.smv_tree.specs.declared.tree.Identifier.{Identifier}
use Rattle.smv_scope.proofs.enumerated.push_names.Given as goal

abbrev pub invariant-loop-x : goal.invariant-loop-x
invariant-loop-x l = l.all ++ map (λ (x : Identifier). x.name) (drop l.x-index l.names) ≡ l.initial.all ++ map (λ (x : Identifier). x.name) l.names
