-- The definitions so far.
use Rattle.std.proofs.Common.{◌≡◌, ◌++◌, map, take, Bor}
use Rattle.smv_tree.specs.declared.tree.Definition.{Definition}
use Rattle.smv_scope.proofs.modules.push_definitions.Given as goal

abbrev pub invariant-loop-definition : goal.invariant-loop-definition
invariant-loop-definition l = map (λ (d : Bor Definition). d.now) l.all.items ≡ map (λ (d : Bor Definition). d.now) l.initial.all.items ++ take l.definition-index l.definitions
