-- What stands there and what is to come are all.
use Rattle.std.proofs.Common.{◌≡◌, ◌++◌, drop, map}
use Rattle.std.specs.List.{flat_map}
use Rattle.smv_tree.specs.declared.tree.Module.{Module}
use Rattle.smv_scope.specs.Modules.{definitions_in}
use Rattle.smv_names.specs.DefinitionLists.{read_lists}
use Rattle.smv_names.proofs.definition_lists.push_lists.Given as goal

abbrev pub invariant-loop-module : goal.invariant-loop-module
invariant-loop-module l =
    read_lists l.lists.items ++ map (λ (m : Module). flat_map definitions_in m.sections) (drop l.module-index l.modules)
    ≡ read_lists l.initial.lists.items ++ map (λ (m : Module). flat_map definitions_in m.sections) l.modules
