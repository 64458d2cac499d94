-- States and inputs as bits.
use Rattle.std.specs.Prelude.{◌≡◌, ℕ, ◌<◌, Bool, true, false, List, map, slice_index_or}
use Rattle.smv_tree.specs.declared.tree.Program.{Program}
use Rattle.smv_value.specs.declared.value.Value.{Value}
use Rattle.value_types.specs.declared.value_type.ValueType.{ValueType}
use Rattle.smv_meaning.specs.Runs.{are_inputs, is_state}
use Rattle.bit_states.specs.Values.{are_codes, decoded_all, encoded_all}
use Rattle.bit_states.specs.Layouts.{input_types, layout_of, state_types, state_width}

-- the values of these types that these bits are
abbrev pub decoded : List ValueType → List ℕ → (ℕ → Bool) → List Value
decoded types bits x = decoded_all types (map x bits)

-- the state, the next one and the inputs that the bits are
abbrev pub state_of : Program → (ℕ → Bool) → List Value
state_of p x = decoded (state_types p) (layout_of p).state x

abbrev pub next_of : Program → (ℕ → Bool) → List Value
next_of p x = decoded (state_types p) (layout_of p).next x

abbrev pub inputs_of : Program → (ℕ → Bool) → List Value
inputs_of p x = decoded (input_types p) (layout_of p).inputs x

-- the bits of a state
abbrev pub code_of : Program → List Value → ℕ → Bool
code_of p s k = slice_index_or (encoded_all (state_types p) s) k false

-- these bits are the code of values of these types
abbrev pub HoldsAt : List ValueType → List ℕ → (ℕ → Bool) → List Value → Type 0
HoldsAt types bits x s = map x bits ≡ encoded_all types s

-- these bits are the same in both
abbrev pub AgreeAt : List ℕ → (ℕ → Bool) → (ℕ → Bool) → Type 0
AgreeAt bits x y = map x bits ≡ map y bits

-- Each state is what its code decodes to, and of no other bits. Bits that are the same decode alike, and they are a
-- state just where the bits of each slot are those of a value. Next states and inputs are coded in the same way.
pub record IsCoding (p : Program) : Type 0 where
  pub back : (s : List Value) → is_state p s ≡ true → state_of p (code_of p s) ≡ s
  pub one_code : (x y : ℕ → Bool) → is_state p (state_of p x) ≡ true → state_of p x ≡ state_of p y → (k : ℕ) → k < state_width p → x k ≡ y k
  pub own_bits : (x y : ℕ → Bool) → ((k : ℕ) → k < state_width p → x k ≡ y k) → state_of p x ≡ state_of p y
  pub states : (x : ℕ → Bool) → is_state p (state_of p x) ≡ are_codes (state_types p) (map x (layout_of p).state)
  pub given_next : (s : List Value) (x : ℕ → Bool) → is_state p s ≡ true → HoldsAt (state_types p) (layout_of p).next x s → next_of p x ≡ s
  pub one_next : (x y : ℕ → Bool) → is_state p (next_of p x) ≡ true → next_of p x ≡ next_of p y → AgreeAt (layout_of p).next x y
  pub next_states : (x : ℕ → Bool) → is_state p (next_of p x) ≡ are_codes (state_types p) (map x (layout_of p).next)
  pub given : (u : List Value) (x : ℕ → Bool) → are_inputs p u ≡ true → HoldsAt (input_types p) (layout_of p).inputs x u → inputs_of p x ≡ u
  pub one_given : (x y : ℕ → Bool) → are_inputs p (inputs_of p x) ≡ true → inputs_of p x ≡ inputs_of p y → AgreeAt (layout_of p).inputs x y
  pub own_inputs : (x y : ℕ → Bool) → AgreeAt (layout_of p).inputs x y → inputs_of p x ≡ inputs_of p y
  pub inputs : (x : ℕ → Bool) → are_inputs p (inputs_of p x) ≡ are_codes (input_types p) (map x (layout_of p).inputs)
