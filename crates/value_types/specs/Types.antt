-- Which values are in a type, and what a declared type keeps (NuSMV 2.6 User Manual, 2.1, Types Overview).
use Rattle.std.specs.Prelude.{ℕ, Bool, true, false, not, ◌&&◌, List, [], ◌∷◌, ℤ, int_le}
use Rattle.std.specs.List.{list_all, list_any}
use Rattle.smv_value.specs.declared.value.Value.{Value}
use Rattle.smv_value.specs.declared.value.Value.TheVariants as value
use Rattle.smv_value.specs.Results.{alike, is_int, is_value, is_width, is_word, same}
use Rattle.value_types.specs.declared.value_type.Element.{Element}
use Rattle.value_types.specs.declared.value_type.Element.TheVariants as element
use Rattle.value_types.specs.declared.value_type.ValueType.{ValueType}
use Rattle.value_types.specs.declared.value_type.ValueType.TheVariants as type

abbrev pub element_value : Element → Value
element_value (element.Int z) = value.Int z
element_value (element.Sym n) = value.Sym n

abbrev pub is_element : Value → Element → Bool
is_element v e = same v (element_value e)

abbrev pub is_boolean : Value → Bool
is_boolean (value.Bool b) = true
is_boolean v = false

abbrev pub is_word_of : Bool → ℕ → Value → Bool
is_word_of s w (value.Word t u bits) = alike s w t u && is_word u bits
is_word_of s w v = false

abbrev pub is_between : ℤ → ℤ → Value → Bool
is_between low high (value.Int z) = int_le low z && int_le z high
is_between low high v = false

-- the value is one of the type
abbrev pub is_of_type : Value → ValueType → Bool
is_of_type v type.Boolean = is_boolean v
is_of_type v (type.Word signed width) = is_word_of signed width v
is_of_type v (type.Range low high) = is_between low high v
is_of_type v (type.Enumeration elements) = list_any (is_element v) elements

-- no element stands twice
abbrev pub is_distinct : List Element → Bool
is_distinct [] = true
is_distinct (e ∷ es) = not (list_any (is_element (element_value e)) es) && is_distinct es

-- What a declared type keeps: integers of 32 bits, words of 1 to 128, bounds in their order, and no element twice.
abbrev pub is_type : ValueType → Bool
is_type type.Boolean = true
is_type (type.Word signed width) = is_width width
is_type (type.Range low high) = is_int low && is_int high && int_le low high
is_type (type.Enumeration elements) = is_distinct elements && list_all (λ e. is_value (element_value e)) elements
