-- The names of the definitions so far.
use Rattle.std.proofs.Common.{◌≡◌, ◌++◌, map, take}
use Rattle.smv_tree.specs.declared.tree.Definition.{Definition}
use Rattle.smv_names.specs.Lent.{read_names}
use Rattle.smv_names.proofs.declared.push_definitions.Given as goal

abbrev pub invariant-loop-definition : goal.invariant-loop-definition
invariant-loop-definition l =
    read_names l.names.items
    ≡ read_names l.initial.names.items ++ map (λ (d : Definition). (d.place, d.name)) (take l.definition-index l.definitions)
