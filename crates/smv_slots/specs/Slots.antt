-- The slots of a program: one for each variable that has a value, and one for each element of an array, instance by
-- instance, in the order of the source (NuSMV 2.6 User Manual, 2.1.6, Array Types; 2.3.1, Variable Declarations).
use Rattle.std.specs.Prelude.{ℕ, ◌+◌, Bool, true, false, if◌then◌else◌, List, [], ◌∷◌, ◌++◌, map, replicate, take, Option, None, Some, slice_get}
use Rattle.std.specs.List.{flat_map, range_with_len, zip}
use Rattle.smv_tree.specs.declared.tree.Program.{Program}
use Rattle.smv_tree.specs.declared.tree.Variable.{Variable}
use Rattle.smv_tree.specs.declared.tree.VariableKind.{VariableKind}
use Rattle.smv_tree.specs.declared.tree.VariableKind.TheVariants as sort
use Rattle.value_types.specs.declared.value_type.ValueType.{ValueType}
use Rattle.smv_scope.specs.declared.instance.Instance.{Instance}
use Rattle.smv_scope.specs.Modules.{variables_of}
use Rattle.smv_scope.specs.Instances.{instances_of}
use Rattle.smv_scope.specs.Holders.{holds}
use Rattle.smv_declared.specs.declared.variable_type.VariableType.{VariableType}
use Rattle.smv_declared.specs.Types.{size_of, slots_in, variable_types_of}
use Rattle.smv_slots.specs.declared.slot.Holder.{Holder}
use Rattle.smv_slots.specs.declared.slot.Slot.{Slot}

abbrev pub is_input : VariableKind → Bool
is_input sort.Input = true
is_input other = false

-- a variable of an instance, if it has a value, or is an array
abbrev pub holders_with : ℕ → ℕ → VariableKind → Variable → List Holder
holders_with at v kind x = if holds x then record { instance = at; variable = v; kind = kind } ∷ [] else []

-- those of these variables, the first of which has number v in the instance of number `at`
abbrev pub holders_from : ℕ → ℕ → List (VariableKind × Variable) → List Holder
holders_from at v [] = []
holders_from at v (x ∷ xs) = holders_with at v x.0 x.1 ++ holders_from at (v + 1) xs

-- those of these instances, the first of which has number n
abbrev pub holders_below : Program → ℕ → List Instance → List Holder
holders_below p n [] = []
holders_below p n (x ∷ xs) = holders_from n 0 (variables_of p x.of_module) ++ holders_below p (n + 1) xs

-- the variables of a program that have values, or are arrays
abbrev pub holders_of : Program → List Holder
holders_of p = holders_below p 0 (instances_of p)

-- the slot of the element of this number of a variable; it is numbered below
abbrev pub element_at : Holder → ℕ → Slot
element_at x k = record { instance = x.instance; variable = x.variable; kind = x.kind; element = k; declared = 0; index = 0 }

-- the slots of a variable of this type, one for each element, the last index fastest
abbrev pub elements_of : Holder × VariableType → List Slot
elements_of x = map (element_at x.0) (range_with_len 0 (size_of x.1.dimensions))

-- Each slot with its own number, and its index: its number among the inputs, or among the slots of the state. So many
-- of the state, and so many inputs, stand before these.
abbrev pub indexed : ℕ → ℕ → List Slot → List Slot
indexed held inputs [] = []
indexed held inputs (x ∷ xs) =
    if is_input x.kind
    then record x { declared = held + inputs; index = inputs } ∷ indexed held (inputs + 1) xs
    else record x { declared = held + inputs; index = held } ∷ indexed (held + 1) inputs xs

-- the slots of a program
unfoldable pub slots_of : Program → List Slot
slots_of p = indexed 0 0 (flat_map elements_of (zip (holders_of p) (variable_types_of p)))

-- the types of the slots of a variable of this type: that of its elements, once for each
abbrev pub types_with : VariableType → List ValueType
types_with t = replicate (size_of t.dimensions) t.element

-- the types of the slots of variables of these types
abbrev pub slot_types : List VariableType → List ValueType
slot_types ts = flat_map types_with ts

-- the type of each slot of a program, in the order of the slots
unfoldable pub types_of : Program → List ValueType
types_of p = slot_types (variable_types_of p)

-- the number of the first slot of the variable of number n, where the variables have these types
abbrev pub first_slot : List VariableType → ℕ → ℕ
first_slot ts n = slots_in (take n ts)

-- What a state s and inputs u give to a slot: an item of the state, or of the inputs.
abbrev pub given_to : {A : Type 0} → List A → List A → Option Slot → Option A
given_to s u None = None
given_to s u (Some slot) = if is_input slot.kind then slice_get u slot.index else slice_get s slot.index

-- the same for the slot of this number
abbrev pub item_of : {A : Type 0} → List Slot → List A → List A → ℕ → Option A
item_of slots s u n = given_to s u (slice_get slots n)
