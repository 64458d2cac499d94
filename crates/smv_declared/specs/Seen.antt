-- Sets of elements.
use Rattle.std.specs.Prelude.{Bool, nat_eq}
use Rattle.std.specs.HashSet.{contains}
use Rattle.std.specs.Ordering.{int_eq}
use Rattle.value_types.specs.declared.value_type.Element.{Element}
use Rattle.value_types.specs.declared.value_type.Element.TheVariants as element
use Rattle.smv_declared.specs.declared.elements.Seen.{Seen}

-- the element is there
abbrev pub has_seen : Seen → Element → Bool
has_seen s (element.Int z) = contains int_eq s.integers z
has_seen s (element.Sym n) = contains nat_eq s.symbols n
