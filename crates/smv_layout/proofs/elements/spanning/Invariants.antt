-- The values of the elements so far.
use Rattle.std.proofs.Common.{◌≡◌, map, take}
use Rattle.value_types.specs.Types.{element_value}
use Rattle.smv_layout.proofs.elements.spanning.Given as goal

abbrev pub invariant-loop-element : goal.invariant-loop-element
invariant-loop-element l = l.values.items ≡ map element_value (take l.element-index l.element-items)
