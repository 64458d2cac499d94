-- Bits of a step that are mended: in each slot whose bits are no code of its type all are made 0, and 0 is a code.
use Rattle.std.specs.Prelude.{ℕ, Bool, false, ◌&&◌, List, [], ◌∷◌, ◌++◌, map, nat_lt, replicate, slice_index_or, take, drop}
use Rattle.std.specs.List.{list_all}
use Rattle.smv_tree.specs.declared.tree.Program.{Program}
use Rattle.value_types.specs.declared.value_type.ValueType.{ValueType}
use Rattle.value_types.specs.Codes.{count}
use Rattle.bit_values.specs.Bits.{is_code, width_of}
use Rattle.bit_states.specs.Layouts.{input_types, layout_of, state_types}

-- for each bit of values of these types, one of each, whether the bits of its value are a code
abbrev pub coded : List ValueType → List Bool → List Bool
coded [] bits = []
coded (t ∷ types) bits = replicate (width_of t) (is_code t (take (width_of t) bits)) ++ coded types (drop (width_of t) bits)

-- for each bit of a step whether the bits of its slot are a code
abbrev pub step_coded : Program → (ℕ → Bool) → List Bool
step_coded p b = coded (state_types p) (map b (layout_of p).state) ++ coded (state_types p) (map b (layout_of p).next) ++ coded (input_types p) (map b (layout_of p).inputs)

abbrev pub is_coded : Program → (ℕ → Bool) → ℕ → Bool
is_coded p b k = slice_index_or (step_coded p b) k false

-- the bits, with 0 in each slot whose bits are no code
abbrev pub mended : Program → (ℕ → Bool) → ℕ → Bool
mended p b k = is_coded p b k && b k

-- each of these types has a value, so that 0 is a code of it
abbrev pub all_have_codes : List ValueType → Bool
all_have_codes types = list_all (λ (t : ValueType). nat_lt 0 (count t)) types
