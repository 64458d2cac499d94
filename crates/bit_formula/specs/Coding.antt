-- A state together with the inputs that a formula reads, as bits: those of the slots, and then those of these inputs. A
-- step has these inputs from the state that it leads from. The others stand behind the bits of the next state.
use Rattle.std.specs.Prelude.{ℕ, ◌+◌, ◌==◌, Bool, false, not, nat_lt, if◌then◌else◌, List, [], ◌∷◌, ◌++◌, filter, length, map, slice_index_or}
use Rattle.std.specs.List.{flat_map, list_any, range_with_len}
use Rattle.smv_tree.specs.declared.tree.Program.{Program}
use Rattle.smv_value.specs.declared.value.Value.{Value}
use Rattle.smv_value.specs.declared.value.Value.TheVariants as value
use Rattle.value_types.specs.declared.value_type.ValueType.{ValueType}
use Rattle.value_types.specs.declared.value_type.ValueType.TheVariants as type
use Rattle.bit_values.specs.Bits.{width_of}
use Rattle.bit_states.specs.Coding.{decoded}
use Rattle.bit_states.specs.Layouts.{BitLayout, input_types, state_types, state_width}
use Rattle.bit_states.specs.Values.{encoded_all, width_of_all}

-- the number is in the list
abbrev pub is_in : List ℕ → ℕ → Bool
is_in numbers k = list_any (λ (n : ℕ). n == k) numbers

-- the numbers below n that are not in the list
abbrev pub others : ℕ → List ℕ → List ℕ
others n numbers = filter (λ (k : ℕ). not (is_in numbers k)) (range_with_len 0 n)

-- the type of this number; past the end it is boolean
abbrev pub type_at : List ValueType → ℕ → ValueType
type_at types k = slice_index_or types k type.Boolean

-- how many bits values of the types of these numbers have
abbrev pub width_at : List ValueType → List ℕ → ℕ
width_at types numbers = width_of_all (map (type_at types) numbers)

-- where the bits of number k begin among those of these numbers, one after the other
abbrev pub start_in : List ValueType → List ℕ → ℕ → ℕ
start_in types [] k = 0
start_in types (n ∷ numbers) k = if n == k then 0 else width_of (type_at types n) + start_in types numbers k

-- so many bits has a state of so many bits with the inputs of these numbers
abbrev pub joined_width : List ValueType → ℕ → List ℕ → ℕ
joined_width types width reads = width + width_at types reads

-- Where the bits of input k begin, where the bits of slots are so many. One that is read stands among those of the
-- state, another behind those of the next state.
abbrev pub start_by : List ValueType → ℕ → List ℕ → ℕ → ℕ
start_by types width reads k =
    if is_in reads k then width + start_in types reads k
    else (joined_width types width reads + joined_width types width reads) + start_in types (others (length types) reads) k

-- where they stand
abbrev pub places_by : List ValueType → ℕ → List ℕ → ℕ → List ℕ
places_by types width reads k = range_with_len (start_by types width reads k) (width_of (type_at types k))

-- the bits of all inputs, one after the other
abbrev pub all_places : List ValueType → ℕ → List ℕ → List ℕ
all_places types width reads = flat_map (places_by types width reads) (range_with_len 0 (length types))

-- how many inputs there are
abbrev pub input_count : Program → ℕ
input_count p = length (input_types p)

-- how many bits a state has, with these inputs
abbrev pub joint_width : Program → List ℕ → ℕ
joint_width p reads = joined_width (input_types p) (state_width p) reads

-- how many have a state, the next one, and the other inputs
abbrev pub joint_named : Program → List ℕ → ℕ
joint_named p reads = joint_width p reads + joint_width p reads + width_at (input_types p) (others (input_count p) reads)

-- where the bits of the state's slots, of the next state's slots, and of the inputs of the step stand
abbrev pub joint_layout : Program → List ℕ → BitLayout
joint_layout p reads = record {
  state = range_with_len 0 (state_width p);
  next = range_with_len (joint_width p reads) (state_width p);
  inputs = all_places (input_types p) (state_width p) reads;
  state_types = state_types p;
  input_types = input_types p;
}

-- the state, the next one and the inputs of the step that the bits are
abbrev pub state_in : Program → List ℕ → (ℕ → Bool) → List Value
state_in p reads x = decoded (state_types p) (joint_layout p reads).state x

abbrev pub next_in : Program → List ℕ → (ℕ → Bool) → List Value
next_in p reads x = decoded (state_types p) (joint_layout p reads).next x

abbrev pub inputs_in : Program → List ℕ → (ℕ → Bool) → List Value
inputs_in p reads x = decoded (input_types p) (joint_layout p reads).inputs x

-- the first so many bits; past them all are false
abbrev pub kept_below : ℕ → (ℕ → Bool) → ℕ → Bool
kept_below width x k = if nat_lt k width then x k else false

-- The inputs that are read, as the bits of a state say. Each other has the value of bits that are all false.
abbrev pub read_inputs : Program → List ℕ → (ℕ → Bool) → List Value
read_inputs p reads x = inputs_in p reads (kept_below (joint_width p reads) x)

-- the same of the bits of the next state
abbrev pub read_next : Program → List ℕ → (ℕ → Bool) → List Value
read_next p reads x = read_inputs p reads (λ (k : ℕ). x (joint_width p reads + k))

-- the values of these numbers
abbrev pub values_at : List Value → List ℕ → List Value
values_at u numbers = map (λ (k : ℕ). slice_index_or u k (value.Bool false)) numbers

-- the bits of a state with the inputs that are read
abbrev pub joint_code : Program → List ℕ → List Value → List Value → ℕ → Bool
joint_code p reads s u k =
    slice_index_or (encoded_all (state_types p ++ map (type_at (input_types p)) reads) (s ++ values_at u reads)) k false
