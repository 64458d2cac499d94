-- Each list by its number.
use Rattle.std.proofs.Common.{◌++◌, map, ap, ◌∙◌}
use Rattle.std.specs.List.{flat_map}
use Rattle.smv_tree.specs.declared.tree.Module.{Module}
use Rattle.smv_scope.specs.Modules.{definitions_in}
use Rattle.smv_names.specs.DefinitionLists.{read_lists}
use Rattle.smv_names.proofs.Listed.{by_number}
use Rattle.smv_names.proofs.definition_lists.definition_lists.Goals as goal

pub returns : goal.returns
returns c =
    by_number c.push_lists.new.lists.items c.args.program.now.modules
    (c.in_ok-push_lists.ensures
    ∙ ap (λ ls. read_lists ls ++ map (λ (m : Module). flat_map definitions_in m.sections) c.as_slice.result.now) c.new-lists.ensures.items
    ∙ ap (map (λ (m : Module). flat_map definitions_in m.sections)) c.as_slice.ensures)
