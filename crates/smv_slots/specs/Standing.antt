-- Where the slots of a variable stand.
use Rattle.std.specs.Prelude.{◌≡◌, ℕ, ◌+◌, ◌<◌, true, Some, slice_get, IsSomeAnd}
use Rattle.smv_tree.specs.declared.tree.Program.{Program}
use Rattle.smv_tree.specs.declared.tree.Variable.{Variable}
use Rattle.smv_tree.specs.declared.tree.VariableKind.{VariableKind}
use Rattle.smv_scope.specs.Modules.{variables_of}
use Rattle.smv_scope.specs.Instances.{module_at}
use Rattle.smv_scope.specs.Holders.{holds, holder_number}
use Rattle.smv_declared.specs.Types.{size_of, variable_type, variable_types_of}
use Rattle.smv_slots.specs.declared.slot.Holder.{Holder}
use Rattle.smv_slots.specs.declared.slot.Slot.{Slot}
use Rattle.smv_slots.specs.Slots.{first_slot, slots_of, types_of}

-- the slot is that of the element of number k of this variable
abbrev pub IsElementOf : Holder → ℕ → Slot → Type 0
IsElementOf x k slot = (slot.instance ≡ x.instance) × (slot.variable ≡ x.variable) × (slot.kind ≡ x.kind) × (slot.element ≡ k)

-- The slot so many places behind the first slot of the n-th variable that has a value is its element of that number,
-- and of the type of its elements. The variable of number v of an instance is the n-th of all that have values.
abbrev pub StandsAt : Program → (at v n k : ℕ) → VariableKind × Variable → Type 0
StandsAt p at v n k x =
    IsSomeAnd (slice_get (slots_of p) (first_slot (variable_types_of p) n + k)) (IsElementOf (record { instance = at; variable = v; kind = x.0 }) k)
    × (slice_get (types_of p) (first_slot (variable_types_of p) n + k) ≡ Some (variable_type p at x.1).element)

-- each element of each variable stands so, by the number that names of the variable lead to
abbrev pub NamesLeadToSlots : Program → Type 0
NamesLeadToSlots p =
    (at m v n k : ℕ) (x : VariableKind × Variable) → module_at p at ≡ Some m → slice_get (variables_of p m) v ≡ Some x → holds x.1 ≡ true → holder_number p at v ≡ Some n →
    k < size_of (variable_type p at x.1).dimensions → StandsAt p at v n k x
