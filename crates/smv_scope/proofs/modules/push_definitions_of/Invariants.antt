-- The definitions so far.
use Rattle.std.proofs.Common.{◌≡◌, ◌++◌, map, take, Bor}
use Rattle.std.specs.List.{flat_map}
use Rattle.smv_tree.specs.declared.tree.Definition.{Definition}
use Rattle.smv_scope.specs.Modules.{definitions_in}
use Rattle.smv_scope.proofs.modules.push_definitions_of.Given as goal

abbrev pub invariant-loop-section : goal.invariant-loop-section
invariant-loop-section l = map (λ (d : Bor Definition). d.now) l.all.items ≡ map (λ (d : Bor Definition). d.now) l.initial.all.items ++ flat_map definitions_in (take l.section-index l.sections)
