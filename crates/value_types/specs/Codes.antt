-- How many values a type has, and the code of each: an own choice of this project.
use Rattle.std.specs.Prelude.{◌≡◌, ℕ, ◌^◌, ◌<◌, ◌==◌, Bool, true, ◌&&◌, if◌then◌else◌, cond, nat_lt, length, Option, None, Some, ℤ, pos, ◌+ℤ◌, ◌-ℤ◌, int_le, position, slice_get}
use Rattle.std.specs.Option.{option_map}
use Rattle.smv_value.specs.declared.value.Value.{Value}
use Rattle.smv_value.specs.declared.value.Value.TheVariants as value
use Rattle.smv_value.specs.Results.{alike, is_value, is_word, natural}
use Rattle.value_types.specs.declared.value_type.ValueType.{ValueType}
use Rattle.value_types.specs.declared.value_type.ValueType.TheVariants as type
use Rattle.value_types.specs.Types.{element_value, is_element, is_of_type}

-- how many values there are
abbrev pub count : ValueType → ℕ
count type.Boolean = 2
count (type.Word signed width) = 2 ^ width
count (type.Range low high) = natural (high -ℤ low +ℤ pos 1)
count (type.Enumeration elements) = length elements

-- the same for a range or an enumeration
abbrev pub discrete_count : ValueType → Option ℕ
discrete_count type.Boolean = None
discrete_count (type.Word signed width) = None
discrete_count (type.Range low high) = Some (count (type.Range low high))
discrete_count (type.Enumeration elements) = Some (length elements)

abbrev pub boolean_code : Value → Option ℕ
boolean_code (value.Bool b) = Some (cond b 1 0)
boolean_code v = None

abbrev pub word_code : Bool → ℕ → Value → Option ℕ
word_code s w (value.Word t u bits) = if alike s w t u && is_word u bits then Some bits else None
word_code s w v = None

abbrev pub range_code : ℤ → ℤ → Value → Option ℕ
range_code low high (value.Int z) = if int_le low z && int_le z high then Some (natural (z -ℤ low)) else None
range_code low high v = None

-- the code of a value: its position in the range or the enumeration, of a word its bits; none where it is not of the
-- type
abbrev pub code_of : ValueType → Value → Option ℕ
code_of type.Boolean v = boolean_code v
code_of (type.Word signed width) v = word_code signed width v
code_of (type.Range low high) v = range_code low high v
code_of (type.Enumeration elements) v = position (is_element v) elements

abbrev pub word_value : Bool → ℕ → ℕ → Option Value
word_value s w c = if is_word w c then Some (value.Word s w c) else None

abbrev pub range_value : ℤ → ℤ → ℕ → Option Value
range_value low high c = if int_le (low +ℤ pos c) high then Some (value.Int (low +ℤ pos c)) else None

-- the value of a code, if it is one
abbrev pub value_at : ValueType → ℕ → Option Value
value_at type.Boolean c = if nat_lt c 2 then Some (value.Bool (c == 1)) else None
value_at (type.Word signed width) c = word_value signed width c
value_at (type.Range low high) c = range_value low high c
value_at (type.Enumeration elements) c = option_map element_value (slice_get elements c)

-- the value has this code, and is the one that has it
pub record HasCode (t : ValueType) (v : Value) (c : ℕ) : Type 0 where
  pub typed : is_of_type v t ≡ true
  pub valued : is_value v ≡ true
  pub below : c < count t
  pub code : code_of t v ≡ Some c
  pub back : value_at t c ≡ Some v

-- each value of the type has a code, and each number below the count is the code of a value
pub record IsCoding (t : ValueType) : Type 0 where
  pub of_value : (v : Value) → is_of_type v t ≡ true → (c : ℕ) × HasCode t v c
  pub of_code : (c : ℕ) → c < count t → (v : Value) × HasCode t v c
