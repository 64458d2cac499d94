-- The integers of a type.
use Rattle.std.specs.Prelude.{Bool, false, ◌&&◌, Option, None, Some, ℤ, int_le, fold}
use Rattle.std.specs.Int.{int_max, int_min}
use Rattle.value_types.specs.declared.value_type.Element.{Element}
use Rattle.value_types.specs.declared.value_type.Element.TheVariants as element
use Rattle.value_types.specs.declared.value_type.ValueType.{ValueType}
use Rattle.value_types.specs.declared.value_type.ValueType.TheVariants as type
use Rattle.value_types.specs.declared.interval.Interval.{Interval}

-- the interval with the element in it too, if that is an integer
abbrev pub widened : Option Interval → Element → Option Interval
widened i (element.Sym n) = i
widened None (element.Int z) = Some (record { low = z; high = z })
widened (Some i) (element.Int z) = Some (record { low = int_min i.low z; high = int_max i.high z })

-- from the least integer of the type to the greatest, if it has any
abbrev pub interval_of : ValueType → Option Interval
interval_of type.Boolean = None
interval_of (type.Word signed width) = None
interval_of (type.Range low high) = Some (record { low = low; high = high })
interval_of (type.Enumeration elements) = fold widened None elements

-- the integer is in the interval
abbrev pub is_in : ℤ → Option Interval → Bool
is_in z None = false
is_in z (Some i) = int_le i.low z && int_le z i.high
