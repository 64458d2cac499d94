-- Lists of values as bits: the bits of each, one after the other, the low bit of each first.
use Rattle.std.specs.Prelude.{ℕ, ◌+◌, Bool, true, ◌&&◌, List, [], ◌∷◌, ◌++◌, take, drop}
use Rattle.smv_value.specs.declared.value.Value.{Value}
use Rattle.value_types.specs.declared.value_type.ValueType.{ValueType}
use Rattle.bit_values.specs.Bits.{encoded, is_code, value_of_bits, width_of}

-- how many bits values of these types have, one of each
abbrev pub width_of_all : List ValueType → ℕ
width_of_all [] = 0
width_of_all (t ∷ types) = width_of t + width_of_all types

-- the bits of values of these types
abbrev pub encoded_all : List ValueType → List Value → List Bool
encoded_all [] values = []
encoded_all (t ∷ types) [] = []
encoded_all (t ∷ types) (v ∷ values) = encoded t v ++ encoded_all types values

-- The values of these types that have the bits. It is FALSE where none has, which is of no type but boolean.
abbrev pub decoded_all : List ValueType → List Bool → List Value
decoded_all [] bits = []
decoded_all (t ∷ types) bits = value_of_bits t (take (width_of t) bits) ∷ decoded_all types (drop (width_of t) bits)

-- the bits of each are those of a value
abbrev pub are_codes : List ValueType → List Bool → Bool
are_codes [] bits = true
are_codes (t ∷ types) bits = is_code t (take (width_of t) bits) && are_codes types (drop (width_of t) bits)
