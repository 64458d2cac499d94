-- The variables so far.
use Rattle.std.proofs.Common.{◌≡◌, ◌++◌, take}
use Rattle.std.specs.List.{flat_map}
use Rattle.smv_scope.specs.Modules.{variables_in}
use Rattle.smv_scope.proofs.Variables.{lent}
use Rattle.smv_scope.proofs.modules.push_variables_of.Given as goal

abbrev pub invariant-loop-section : goal.invariant-loop-section
invariant-loop-section l = lent l.all.items ≡ lent l.initial.all.items ++ flat_map variables_in (take l.section-index l.sections)
