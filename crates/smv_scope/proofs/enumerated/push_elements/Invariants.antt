-- What stands there and what is to come are all.
use Rattle.std.proofs.Common.{◌≡◌, ◌++◌, drop}
use Rattle.std.specs.List.{flat_map}
use Rattle.smv_scope.specs.Enumerated.{symbol_in}
use Rattle.smv_scope.proofs.enumerated.push_elements.Given as goal

abbrev pub invariant-loop-element : goal.invariant-loop-element
invariant-loop-element l = l.all ++ flat_map symbol_in (drop l.element-index l.elements) ≡ l.initial.all ++ flat_map symbol_in l.elements
