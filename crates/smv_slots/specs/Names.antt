-- The names of slots, as they are printed: those of elements end with their indices, as in `m.a[2][-1]`.
use Rattle.std.specs.Prelude.{ℕ, ◌/◌, ◌%◌, List, [], ◌∷◌, ◌++◌, Option, None, Some, slice_get, codes, ℤ, pos, ◌+ℤ◌}
use Rattle.std.specs.Fmt.{signed_decimal}
use Rattle.std.specs.Option.{option_and_then}
use Rattle.smv_tree.specs.declared.tree.Program.{Program}
use Rattle.smv_scope.specs.Holders.{holder_number}
use Rattle.smv_scope.specs.Paths.{joined, path_of, variable_name}
use Rattle.smv_declared.specs.declared.variable_type.Bounds.{Bounds}
use Rattle.smv_declared.specs.declared.variable_type.VariableType.{VariableType}
use Rattle.smv_declared.specs.Types.{size_of, variable_types_of}
use Rattle.smv_slots.specs.declared.slot.Slot.{Slot}

-- an index in its brackets
abbrev pub bracketed : ℤ → List ℕ
bracketed z = codes "[" ++ signed_decimal z ++ codes "]"

-- The indices of the element of number k of an array of these dimensions. The elements with one first index stand
-- together, as many as an array of the other dimensions has.
abbrev pub indices_of : List Bounds → ℕ → List ℕ
indices_of [] k = []
indices_of (b ∷ bs) k = bracketed (b.low +ℤ pos (k / size_of bs)) ++ indices_of bs (k % size_of bs)

abbrev pub dimensions_in : Option VariableType → List Bounds
dimensions_in None = []
dimensions_in (Some t) = t.dimensions

-- the dimensions of the variable of this number among those that have values, where they have these types
abbrev pub dimensions_of : List VariableType → Option ℕ → List Bounds
dimensions_of ts n = dimensions_in (option_and_then (slice_get ts) n)

-- the name of a slot as it is printed
abbrev pub slot_name : Program → Slot → List ℕ
slot_name p slot =
    joined (path_of p slot.instance) (variable_name p slot.instance slot.variable)
    ++ indices_of (dimensions_of (variable_types_of p) (holder_number p slot.instance slot.variable)) slot.element
