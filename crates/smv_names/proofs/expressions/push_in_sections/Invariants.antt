-- What stands there and what is to come are all.
use Rattle.std.proofs.Common.{◌≡◌, ◌++◌, drop}
use Rattle.std.specs.List.{flat_map}
use Rattle.smv_names.specs.Expressions.{in_section}
use Rattle.smv_tree.specs.Occurring.{read}
use Rattle.smv_names.proofs.expressions.push_in_sections.Given as goal

abbrev pub invariant-loop-section : goal.invariant-loop-section
invariant-loop-section l = read l.all.items ++ flat_map in_section (drop l.section-index l.sections) ≡ read l.initial.all.items ++ flat_map in_section l.sections
