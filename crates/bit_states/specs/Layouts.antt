-- Where the bits of a program's states and inputs stand: those of the state, of the next one, and of the inputs, in the
-- order of the slots.
use Rattle.std.specs.Prelude.{◌≡◌, ℕ, ◌+◌, ◌<◌, true, List, map, slice_get, unwrap_or}
use Rattle.std.specs.List.{list_all, range_with_len}
use Rattle.smv_tree.specs.declared.tree.Program.{Program}
use Rattle.smv_slots.specs.declared.slot.Slot.{Slot}
use Rattle.smv_slots.specs.Slots.{slots_of}
use Rattle.value_types.specs.declared.value_type.ValueType.{ValueType}
use Rattle.value_types.specs.declared.value_type.ValueType.TheVariants as type
use Rattle.value_types.specs.Types.{is_type}
use Rattle.smv_slots.specs.Slots.{types_of}
use Rattle.smv_meaning.specs.Runs.{input_slots, state_slots}
use Rattle.bit_states.specs.declared.layout.BuildStop.{BuildStop}
use Rattle.bit_states.specs.declared.layout.BuildStop.TheVariants.{TooManyBits, NoMemory}
use Rattle.bit_states.specs.Values.{width_of_all}

-- the type of a slot, where these are the types of all slots
abbrev pub type_of_slot : List ValueType → Slot → ValueType
type_of_slot types slot = unwrap_or (slice_get types slot.declared) type.Boolean

-- the types of the values of a state, and of the inputs of a step
abbrev pub state_types : Program → List ValueType
state_types p = map (type_of_slot (types_of p)) (state_slots (slots_of p))

abbrev pub input_types : Program → List ValueType
input_types p = map (type_of_slot (types_of p)) (input_slots (slots_of p))

-- what slots are declared as are types, as the rules of declarations ask
abbrev pub HasTypes : Program → Type 0
HasTypes p = list_all is_type (types_of p) ≡ true

-- so many bits has a state, and so many have the inputs of a step
abbrev pub state_width : Program → ℕ
state_width p = width_of_all (state_types p)

abbrev pub input_width : Program → ℕ
input_width p = width_of_all (input_types p)

-- so many have a state, the next one and the inputs together
abbrev pub named_width : Program → ℕ
named_width p = state_width p + state_width p + input_width p

-- how many bits a state and the inputs of a step have, and how many they may have
abbrev pub bits_of : Program → ℕ
bits_of p = state_width p + input_width p

abbrev pub bit_limit : ℕ
bit_limit = 65536

-- why there are none
abbrev pub IsBuildStop : Program → BuildStop → Type 0
IsBuildStop p TooManyBits = bit_limit < bits_of p
IsBuildStop p NoMemory = Unit {0}

-- the numbers of the bits of a step, and the types of the values that they are
pub record BitLayout : Type 0 where
  pub state : List ℕ
  pub next : List ℕ
  pub inputs : List ℕ
  pub state_types : List ValueType
  pub input_types : List ValueType

-- the bits of a state, of the next one and of the inputs stand one after the other
abbrev pub layout_of : Program → BitLayout
layout_of p = record {
  state = range_with_len 0 (state_width p);
  next = range_with_len (state_width p) (state_width p);
  inputs = range_with_len (state_width p + state_width p) (input_width p);
  state_types = state_types p;
  input_types = input_types p;
}
