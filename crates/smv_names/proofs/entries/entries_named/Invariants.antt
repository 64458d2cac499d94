-- The entries of the names so far.
use Rattle.std.proofs.Common.{◌≡◌, take}
use Rattle.std.specs.List.{flat_map}
use Rattle.smv_tree.specs.declared.tree.Name.{Name}
use Rattle.smv_scope.specs.Lookup.{name_target}
use Rattle.smv_tree.specs.Occurring.{read}
use Rattle.smv_names.specs.Defined.{entry_of_target}
use Rattle.smv_names.proofs.entries.entries_named.Given as goal

abbrev pub invariant-loop-name : goal.invariant-loop-name
invariant-loop-name l =
    l.named.items ≡ flat_map (λ (name : Name). entry_of_target l.scope.program (name_target l.scope.program l.owner name)) (read (take l.name-index l.name-items))
