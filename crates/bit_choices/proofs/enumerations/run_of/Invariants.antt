-- The elements so far are in a row.
use Rattle.std.proofs.Common.{◌≡◌, ◌<◌, ◌+ℤ◌, ℕ, pos, get_or, length}
use Rattle.value_types.specs.declared.value_type.Element.{Element}
use Rattle.value_types.specs.declared.value_type.Element.TheVariants as element
use Rattle.bit_choices.proofs.enumerations.run_of.Given as goal

abbrev pub invariant-elements : goal.invariant-elements
invariant-elements l = (k : ℕ) (d : Element) → k < l.i → get_or l.elements k d ≡ element.Int (l.low +ℤ pos k)
