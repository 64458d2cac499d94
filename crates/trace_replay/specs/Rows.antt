-- The values of slots as the lines of a trace tell them.
use Rattle.std.specs.Prelude.{◌≡◌, ℕ, ◌-◌, Bool, ◌&&◌, if◌then◌else◌, List, [], ◌∷◌, length, map, bytes_eq, Option, None, Some, slice_get, unwrap_or, true}
use Rattle.std.specs.List.{list_all, range_with_len}
use Rattle.smv_tree.specs.declared.tree.Program.{Program}
use Rattle.smv_value.specs.declared.value.Value.{Value}
use Rattle.value_types.specs.declared.value_type.Element.{Element}
use Rattle.value_types.specs.declared.value_type.ValueType.{ValueType}
use Rattle.value_types.specs.declared.value_type.ValueType.TheVariants as type
use Rattle.value_types.specs.Types.{element_value, is_type}
use Rattle.value_texts.specs.Told.{told_text}
use Rattle.value_texts.specs.Read.{value_read}
use Rattle.smv_slots.specs.declared.slot.Slot.{Slot}
use Rattle.smv_scope.specs.Enumerated.{symbols_of}
use Rattle.smv_slots.specs.Names.{slot_name}
use Rattle.smv_slots.specs.Slots.{slots_of, types_of}
use Rattle.smv_meaning.specs.Runs.{input_slots, state_slots}
use Rattle.trace_replay.specs.declared.columns.Column.{Column}
use Rattle.trace_replay.specs.declared.entry.Binding.{Binding}
use Rattle.trace_replay.specs.declared.trace.Trace.{Trace}
use Rattle.trace_replay.specs.Forms.{is_name, is_value}

-- the name of a slot, and the number of its type
abbrev pub column_of : Program → Slot → Column
column_of p slot = record { name = slot_name p slot; declared = slot.declared }

-- those of the slots of a state, and of the input slots
unfoldable pub state_columns : Program → List Column
state_columns p = map (column_of p) (state_slots (slots_of p))

unfoldable pub input_columns : Program → List Column
input_columns p = map (column_of p) (input_slots (slots_of p))

-- by what values are told: the names of symbols, and the types of slots
pub record Terms : Type 0 where
  pub names : List (List ℕ)
  pub types : List ValueType

unfoldable pub terms_of : Program → Terms
terms_of p = record { names = symbols_of p; types = types_of p }

-- the types are such as declarations keep
abbrev pub AreTypes : Program → Type 0
AreTypes p = list_all is_type (types_of p) ≡ true

-- the texts of the type's elements are such as may stand in a line
abbrev pub are_told : List (List ℕ) → Option ValueType → Bool
are_told names (Some (type.Enumeration es)) = list_all (λ (e : Element). is_value (told_text names (element_value e))) es
are_told names other = true

-- so are the name of the slot and the texts of its values
abbrev pub has_form : Terms → Column → Bool
has_form terms c = is_name c.name && are_told terms.names (slice_get terms.types c.declared)

-- From values to bindings.

abbrev pub binding_of : Terms → Column → Value → Binding
binding_of terms c v = record { name = c.name; value = told_text terms.names v }

abbrev pub bindings_of : Terms → List Column → List Value → List Binding
bindings_of terms [] vs = []
bindings_of terms (c ∷ cs) [] = []
bindings_of terms (c ∷ cs) (v ∷ vs) = binding_of terms c v ∷ bindings_of terms cs vs

-- the inputs of steps; nothing is told of them where there are no input slots
abbrev pub given_rows : Terms → List Column → List (List Value) → List (List Binding)
given_rows terms [] inputs = []
given_rows terms (c ∷ cs) inputs = map (bindings_of terms (c ∷ cs)) inputs

-- the trace of a run
abbrev pub run_trace : Program → List (List Value) → List (List Value) → Trace
run_trace p states inputs = record { states = map (bindings_of (terms_of p) (state_columns p)) states; inputs = given_rows (terms_of p) (input_columns p) inputs; start = None }

-- From bindings to values.

-- the value of the type that is told so, if there is such a type
abbrev pub typed_read : List (List ℕ) → Option ValueType → List ℕ → Option Value
typed_read names None text = None
typed_read names (Some t) text = value_read names t text

abbrev pub cell_read : Terms → Column → Binding → Option Value
cell_read terms c b = if bytes_eq c.name b.name then typed_read terms.names (slice_get terms.types c.declared) b.value else None

abbrev pub in_front : Option Value → Option (List Value) → Option (List Value)
in_front None vs = None
in_front (Some v) None = None
in_front (Some v) (Some vs) = Some (v ∷ vs)

-- one value of its type for each slot, where the names are just those of the slots, in their order
abbrev pub row_read : Terms → List Column → List Binding → Option (List Value)
row_read terms [] [] = Some []
row_read terms [] (b ∷ bs) = None
row_read terms (c ∷ cs) [] = None
row_read terms (c ∷ cs) (b ∷ bs) = in_front (cell_read terms c b) (row_read terms cs bs)

abbrev pub line_read : Terms → List Column → Option (List Binding) → Option (List Value)
line_read terms cs None = None
line_read terms cs (Some bs) = row_read terms cs bs

-- the values of the state of this number, and of the inputs of the step from it, if the trace tells them
abbrev pub state_read : Program → Trace → ℕ → Option (List Value)
state_read p t i = line_read (terms_of p) (state_columns p) (slice_get t.states i)

abbrev pub inputs_read : Program → Trace → ℕ → Option (List Value)
inputs_read p t i = line_read (terms_of p) (input_columns p) (slice_get t.inputs i)

-- the values of each state, and of the inputs of each step; no values where the trace does not tell them
abbrev pub states_told : Program → Trace → List (List Value)
states_told p t = map (λ (bs : List Binding). unwrap_or (row_read (terms_of p) (state_columns p) bs) []) t.states

abbrev pub inputs_told : Program → Trace → List (List Value)
inputs_told p t = map (λ (i : ℕ). unwrap_or (inputs_read p t i) []) (range_with_len 0 (length t.states - 1))
