-- The names of the parameters and of the sections so far.
use Rattle.std.proofs.Common.{◌≡◌, ◌++◌, map, take}
use Rattle.std.specs.List.{flat_map}
use Rattle.smv_tree.specs.declared.tree.Parameter.{Parameter}
use Rattle.smv_names.specs.Declarations.{names_declared_in}
use Rattle.smv_names.specs.Lent.{read_names}
use Rattle.smv_names.proofs.declared.declared_names.Given as goal

abbrev pub invariant-loop-section : goal.invariant-loop-section
invariant-loop-section l =
    read_names l.names.items
    ≡ map (λ (x : Parameter). (x.place, x.name)) l.m.parameters
    ++ flat_map names_declared_in (take l.section-index l.section-items)
