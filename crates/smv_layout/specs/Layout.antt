-- Expressions over slots: in the place of each variable stands its slot, in the place of an element of an array its
-- own, or a choice among the elements where the index is no constant; and constants stand in the bounds of `F G O H`
-- (NuSMV 2.6 User Manual, 2.1.6, Array Types; 2.2.3, Index Subscript Operator; 2.4.3, LTL Specifications).
use Rattle.std.specs.Prelude.{ℕ, ◌==◌, Bool, ◌&&◌, if◌then◌else◌, List, [], ◌∷◌, ◌++◌, drop, length, map, Option, None, Some, ℤ, pos, int_le, slice_get, slice_index_or}
use Rattle.smv_value.specs.declared.operator.Bounded.{Bounded}
use Rattle.smv_value.specs.declared.operator.Operator.{Operator}
use Rattle.smv_value.specs.declared.operator.Operator.TheVariants as operator
use Rattle.smv_value.specs.Results.{natural}
use Rattle.smv_tree.specs.declared.place.Place.{Place}
use Rattle.smv_tree.specs.declared.tree.Program.{Program}
use Rattle.smv_resolve.specs.declared.node.Naming.{Naming}
use Rattle.smv_resolve.specs.declared.node.Naming.TheVariants as naming
use Rattle.smv_resolve.specs.Items.{ResolvedItem, items_of as resolved_items}
use Rattle.smv_resolve.specs.Resolved.{Operands, Resolved, operands_of}
use Rattle.smv_declared.specs.declared.constant.Constant.{Constant}
use Rattle.smv_declared.specs.declared.constant.Constant.TheVariants.{Integer}
use Rattle.smv_declared.specs.declared.variable_type.Bounds.{Bounds}
use Rattle.smv_declared.specs.declared.variable_type.VariableType.{VariableType}
use Rattle.smv_declared.specs.Constants.{constants_of}
use Rattle.smv_declared.specs.Types.{variable_types_of}
use Rattle.smv_slots.specs.Slots.{first_slot}
use Rattle.smv_layout.specs.Arrays.{Subscript, element, is_inside}
use Rattle.smv_layout.specs.Indices.{indices_of}

-- An array without all its indices: the number of the variable, the place of its name, the indices that it has, and
-- what stands for it where no element is meant.
pub record Subarray : Type 0 where
  pub variable : ℕ
  pub place : Place
  pub subscripts : List Subscript
  pub whole : Resolved

-- what is laid out: an expression over slots, or an array that waits for more indices
pub data Laid : Type 0 where
  Value : Resolved → Laid
  Array : Subarray → Laid

abbrev pub value_of : Laid → Resolved
value_of (Laid.Value r) = r
value_of (Laid.Array a) = a.whole

abbrev pub values_of : List Laid → Operands
values_of xs = operands_of (map value_of xs)

-- Variables.

-- An array, or an element of one: the name of the array stands at `place`, and its first element has the slot `first`.
abbrev pub in_array : Place → Place → ℕ → Resolved → Resolved
in_array at place first r = Resolved.Named at (naming.Array place first) r

-- an array without indices, whose first element has the slot `first`
abbrev pub array_of : ℕ → Place → ℕ → Subarray
array_of first place n = record {
  variable = n;
  place = place;
  subscripts = [];
  whole = in_array place place first (Resolved.Apply place operator.WholeArray Operands.End);
}

abbrev pub variable_laid : ℕ → Place → ℕ → List Bounds → Laid
variable_laid first place n [] = Laid.Value (Resolved.Slot place first)
variable_laid first place n (d ∷ ds) = Laid.Array (array_of first place n)

abbrev pub slot_laid : List VariableType → Place → ℕ → Option VariableType → Laid
slot_laid vs place n None = Laid.Value (Resolved.Slot place n)
slot_laid vs place n (Some v) = variable_laid (first_slot vs n) place n v.dimensions

-- Names.

-- an index of what stands in a parameter's place
abbrev pub subscript_given : Place → Subscript → Subscript
subscript_given place x = record { place = x.place; index = Resolved.Named place naming.Passed x.index; constant = x.constant }

abbrev pub array_given : Place → Subarray → Subarray
array_given place a = record {
  variable = a.variable;
  place = a.place;
  subscripts = map (subscript_given place) a.subscripts;
  whole = Resolved.Named place naming.Given a.whole;
}

-- A parameter may be an array; what a definition stands for has to have values.
abbrev pub named : Place → Naming → Laid → Laid
named place naming.Given (Laid.Array a) = Laid.Array (array_given place a)
named place n x = Laid.Value (Resolved.Named place n (value_of x))

-- Indices.

-- the dimension of this number, if the variable has it
abbrev pub dimension_at : Option VariableType → ℕ → Option Bounds
dimension_at None k = None
dimension_at (Some v) k = slice_get v.dimensions k

-- An index of this dimension where no element is meant: a constant inside is one of an element here, too.
abbrev pub index_in : Option Bounds → Subscript → Resolved
index_in d x = if is_inside d x.constant then Resolved.Named x.place naming.Element x.index else x.index

-- an array with one index more, of this dimension
abbrev pub subscripted : Place → Option Bounds → Subarray → Subscript → Subarray
subscripted place d a x = record {
  variable = a.variable;
  place = a.place;
  subscripts = a.subscripts ++ x ∷ [];
  whole = Resolved.Apply place operator.Index (operands_of (a.whole ∷ index_in d x ∷ []));
}

-- an element, where there is an index for each dimension; it stands where its last index does
abbrev pub element_laid : List VariableType → Place → Subarray → Option VariableType → Laid
element_laid vs place a None = Laid.Array a
element_laid vs place a (Some v) =
    if length a.subscripts == length v.dimensions
    then Laid.Value (in_array place a.place (first_slot vs a.variable) (element v.element a.place v.dimensions a.subscripts (first_slot vs a.variable)))
    else Laid.Array a

abbrev pub indexed : List VariableType → Place → Subarray → Subscript → Laid
indexed vs place a x =
    element_laid vs place (subscripted place (dimension_at (slice_get vs a.variable) (length a.subscripts)) a x) (slice_get vs a.variable)

-- An index of an array, where `constant` is the integer that it is. What is no array has no index, and is refused with
-- one.
abbrev pub index_laid : List VariableType → Place → Option ℤ → List Laid → Laid
index_laid vs place constant (Laid.Array a ∷ i ∷ []) = indexed vs place a (record { place = place; index = value_of i; constant = constant })
index_laid vs place constant xs = Laid.Value (Resolved.Apply place operator.Index (values_of xs))

-- Bounds.

-- a bound of a temporal operator has 32 bits and no sign
abbrev pub is_bound : ℤ → Bool
is_bound z = int_le (pos 0) z && int_le z (pos 4294967295)

abbrev pub both_bounds : Constant → Constant → Option (ℕ × ℕ)
both_bounds (Integer low) (Integer high) = if is_bound low && is_bound high then Some (natural low, natural high) else None
both_bounds low high = None

-- both bounds, where they are constants
abbrev pub bounds_in : List Constant → Option (ℕ × ℕ)
bounds_in (low ∷ high ∷ formula ∷ []) = both_bounds low high
bounds_in other = None

-- `F G O H` over a formula, or as they are written; what are no bounds is refused then
abbrev pub bounded : Place → Bounded → Option (ℕ × ℕ) → List Laid → Resolved
bounded place o (Some b) xs = Resolved.Apply place (operator.Bounded o b.0 b.1) (values_of (drop 2 xs))
bounded place o None xs = Resolved.Apply place (operator.Window o) (values_of xs)

-- Expressions.

-- an operator over operands that are laid out; the bounds and the indices that they are as constants are told, too
abbrev pub applied : List VariableType → Place → Operator → Option (ℕ × ℕ) → List (Option ℤ) → List Laid → Laid
applied vs place operator.Index bounds indices xs = index_laid vs place (slice_index_or indices 1 None) xs
applied vs place (operator.Window o) bounds indices xs = Laid.Value (bounded place o bounds xs)
applied vs place o bounds indices xs = Laid.Value (Resolved.Apply place o (values_of xs))

-- an expression over variables of these types
abbrev mutual
  pub laid : List VariableType → Resolved → Laid
  laid vs (Resolved.Constant place v) = Laid.Value (Resolved.Constant place v)
  laid vs (Resolved.Slot place n) = slot_laid vs place n (slice_get vs n)
  laid vs (Resolved.Whole place i) = Laid.Value (Resolved.Whole place i)
  laid vs (Resolved.Named place naming r) = named place naming (laid vs r)
  laid vs (Resolved.Next place r) = Laid.Value (Resolved.Next place (value_of (laid vs r)))
  laid vs (Resolved.Apply place o rs) = applied vs place o (bounds_in (constants_of rs)) (indices_of rs) (all_laid vs rs)
  laid vs Resolved.Stuck = Laid.Value Resolved.Stuck

  pub all_laid : List VariableType → Operands → List Laid
  all_laid vs Operands.End = []
  all_laid vs (Operands.With r rs) = laid vs r ∷ all_laid vs rs

-- What stands for an expression over variables of these types. An array without all its indices has no value, and is
-- refused.
unfoldable pub laid_value : List VariableType → Resolved → Resolved
laid_value vs r = value_of (laid vs r)

abbrev pub laid_target : List VariableType → Option Resolved → Option Resolved
laid_target vs None = None
laid_target vs (Some r) = Some (laid_value vs r)

abbrev pub laid_item : List VariableType → ResolvedItem → ResolvedItem
laid_item vs x = record { at = x.at; kind = x.kind; place = x.place; begins = x.begins; target = laid_target vs x.target; value = laid_value vs x.value }

-- an expression of a program over its slots
abbrev pub laid_expression : Program → Resolved → Resolved
laid_expression p r = laid_value (variable_types_of p) r

-- the items of a program over its slots
unfoldable pub items_of : Program → List ResolvedItem
items_of p = map (laid_item (variable_types_of p)) (resolved_items p)
