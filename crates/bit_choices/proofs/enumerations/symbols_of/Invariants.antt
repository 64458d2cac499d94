-- The elements so far are these symbols.
use Rattle.std.proofs.Common.{◌≡◌, take, map}
use Rattle.value_types.specs.declared.value_type.Element.TheVariants as element
use Rattle.bit_choices.proofs.enumerations.symbols_of.Given as goal

abbrev pub invariant-elements : goal.invariant-elements
invariant-elements l = take l.i l.elements ≡ map element.Sym l.symbols.items
