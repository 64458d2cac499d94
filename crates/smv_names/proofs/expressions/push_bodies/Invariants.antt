-- What stands there and what is to come are all.
use Rattle.std.proofs.Common.{◌≡◌, ◌++◌, drop, map}
use Rattle.smv_tree.specs.declared.tree.Definition.{Definition}
use Rattle.smv_tree.specs.Occurring.{read}
use Rattle.smv_names.proofs.expressions.push_bodies.Given as goal

abbrev pub invariant-loop-definition : goal.invariant-loop-definition
invariant-loop-definition l = read l.all.items ++ map (λ (d : Definition). d.body) (drop l.definition-index l.definitions) ≡ read l.initial.all.items ++ map (λ (d : Definition). d.body) l.definitions
