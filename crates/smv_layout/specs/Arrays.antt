-- Elements of arrays as expressions over slots (NuSMV 2.6 User Manual, 2.1.6, Array Types; 2.2.3, Index Subscript
-- Operator). The elements of an array have slots one behind the other, the last index fastest.
use Rattle.std.specs.Prelude.{ℕ, zero, suc, ◌+◌, ◌*◌, nat_lt, Bool, ◌&&◌, if◌then◌else◌, false, List, [], ◌∷◌, ◌++◌, Option, None, Some, ℤ, pos, ◌+ℤ◌, ◌-ℤ◌, int_le, map}
use Rattle.std.specs.List.{flat_map}
use Rattle.std.specs.Option.{is_some}
use Rattle.smv_value.specs.declared.operator.Operator.TheVariants as operator
use Rattle.smv_value.specs.declared.value.Value.{Value}
use Rattle.smv_value.specs.declared.value.Value.TheVariants as value
use Rattle.smv_value.specs.declared.value.FaultRule.TheVariants as fault
use Rattle.smv_value.specs.Results.{natural}
use Rattle.value_types.specs.declared.value_type.ValueType.{ValueType}
use Rattle.value_types.specs.declared.value_type.ValueType.TheVariants as type
use Rattle.value_types.specs.Types.{element_value}
use Rattle.smv_tree.specs.declared.place.Place.{Place}
use Rattle.smv_resolve.specs.declared.node.Naming.TheVariants as naming
use Rattle.smv_resolve.specs.Resolved.{Resolved, operands_of}
use Rattle.smv_declared.specs.declared.variable_type.Bounds.{Bounds}
use Rattle.smv_declared.specs.Types.{size_of}

-- An index as it is written: the place of its `[`, what stands there, and the integer that this is if it is a constant.
pub record Subscript : Type 0 where
  pub place : Place
  pub index : Resolved
  pub constant : Option ℤ

-- the index at this position of a dimension
abbrev pub index_at : Bounds → ℕ → ℤ
index_at d k = d.low +ℤ pos k

-- the position of an index in a dimension, if it is one of that dimension
abbrev pub position_in : Bounds → ℤ → Option ℕ
position_in d z = if int_le d.low z && nat_lt (natural (z -ℤ d.low)) d.count then Some (natural (z -ℤ d.low)) else None

-- an index is a constant, and one of its dimension
abbrev pub is_inside : Option Bounds → Option ℤ → Bool
is_inside (Some d) (Some z) = is_some (position_in d z)
is_inside d z = false

-- The condition that an index is this integer. An index has to be one integer.
abbrev pub is_index : Subscript → ℤ → Resolved
is_index x z =
    Resolved.Apply x.place operator.Equal
    (operands_of (Resolved.Apply x.place operator.Subscript (operands_of (x.index ∷ [])) ∷ Resolved.Constant x.place (value.Int z) ∷ []))

-- A choice of these conditions and branches by turns. Where no condition is TRUE the index is outside the array.
abbrev pub choice : Place → List Resolved → Resolved
choice place turns = Resolved.Apply place (operator.Choice fault.IndexOutside) (operands_of turns)

-- for each of the first indices of a dimension, so many, the condition that it is the one, and its branch
abbrev pub turns_to : Subscript → Bounds → (ℕ → Resolved) → ℕ → List Resolved
turns_to x d branch zero = []
turns_to x d branch (suc k) = turns_to x d branch k ++ is_index x (index_at d k) ∷ branch k ∷ []

-- the same for each index
abbrev pub turns : Subscript → Bounds → (ℕ → Resolved) → List Resolved
turns x d branch = turns_to x d branch d.count

-- some values that tell the kind of a type
abbrev pub spanning : ValueType → List Value
spanning type.Boolean = value.Bool false ∷ []
spanning (type.Word signed width) = value.Word signed width 0 ∷ []
spanning (type.Range low high) = value.Int low ∷ value.Int high ∷ []
spanning (type.Enumeration elements) = map element_value elements

-- no choice of these values
abbrev pub never : Place → List Value → List Resolved
never place vs = flat_map (λ v. Resolved.Constant place (value.Bool false) ∷ Resolved.Constant place v ∷ []) vs

-- What an index outside its dimension leads to, where these dimensions and indices are left: it has the kind of an
-- element of this type, and no value. Each index that is left has to be an integer.
abbrev pub nowhere : ValueType → Place → List Bounds → List Subscript → Resolved
nowhere t place (d ∷ ds) (x ∷ xs) =
    if is_inside (Some d) x.constant
    then Resolved.Named x.place naming.Element (nowhere t x.place ds xs)
    else choice x.place (is_index x d.low ∷ nowhere t x.place ds xs ∷ [])
nowhere t place ds xs = choice place (never place (spanning t))

-- what stands at this position; or, where there is none, what stands at none
abbrev pub at_position : Subscript → (ℕ → Resolved) → Resolved → Option ℕ → Resolved
at_position x inside outside (Some k) = Resolved.Named x.place naming.Element (inside k)
at_position x inside outside None = outside

-- An index of a dimension: a constant takes what stands at its position, and any other index chooses among what stands
-- at each.
abbrev pub at_index : Subscript → Bounds → (ℕ → Resolved) → Resolved → Option ℤ → Resolved
at_index x d inside outside (Some z) = at_position x inside outside (position_in d z)
at_index x d inside outside None = choice x.place (turns x d inside)

-- The element with these indices of an array of these dimensions, whose first element has the slot `first`. The array's
-- name stands at `place`, and its elements have the type t.
abbrev pub element : ValueType → Place → List Bounds → List Subscript → ℕ → Resolved
element t place (d ∷ ds) (x ∷ xs) first =
    at_index x d (λ k. element t place ds xs (first + k * size_of ds)) (nowhere t place (d ∷ ds) (x ∷ xs)) x.constant
element t place ds xs first = Resolved.Slot place first
