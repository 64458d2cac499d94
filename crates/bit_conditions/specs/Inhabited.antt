-- Types that have values.
use Rattle.std.specs.Prelude.{Bool, true, nat_lt, length, List}
use Rattle.std.specs.List.{list_all}
use Rattle.value_types.specs.declared.value_type.ValueType.{ValueType}
use Rattle.value_types.specs.declared.value_type.ValueType.TheVariants as type

-- an enumeration with no element has none
abbrev pub has_values : ValueType → Bool
has_values (type.Enumeration elements) = nat_lt 0 (length elements)
has_values other = true

abbrev pub all_have_values : List ValueType → Bool
all_have_values types = list_all has_values types
