-- The inputs that an expression reads.
use Rattle.std.specs.Prelude.{◌≡◌, ℕ, ◌<◌, ◌==◌, ◌&&◌, ◌||◌, Bool, false, List, length, Option, None, Some, filter, slice_get, slice_index_or}
use Rattle.std.specs.List.{range_with_len, list_any}
use Rattle.smv_tree.specs.declared.tree.Program.{Program}
use Rattle.smv_value.specs.declared.value.Value.{Value}
use Rattle.smv_slots.specs.declared.slot.Slot.{Slot}
use Rattle.smv_slots.specs.Slots.{is_input, slots_of}
use Rattle.smv_resolve.specs.Resolved.{Resolved, Operands}
use Rattle.bit_formula.specs.Coding.{input_count}

-- the slot is an input
abbrev pub is_some_input : Option Slot → Bool
is_some_input None = false
is_some_input (Some slot) = is_input slot.kind

-- the slot is the input of this number
abbrev pub is_this_input : ℕ → Option Slot → Bool
is_this_input k None = false
is_this_input k (Some slot) = is_input slot.kind && slot.index == k

-- A slot that passes the test is read in the expression, where names stand for what they lead to. Under `next` there
-- are no inputs.
abbrev mutual
  pub reads_slot : (Option Slot → Bool) → List Slot → Resolved → Bool
  reads_slot test slots (Resolved.Constant place b) = false
  reads_slot test slots (Resolved.Slot place n) = test (slice_get slots n)
  reads_slot test slots (Resolved.Whole place i) = false
  reads_slot test slots (Resolved.Named place naming r) = reads_slot test slots r
  reads_slot test slots (Resolved.Next place r) = false
  reads_slot test slots (Resolved.Apply place o rs) = some_reads_slot test slots rs
  reads_slot test slots Resolved.Stuck = false

  pub some_reads_slot : (Option Slot → Bool) → List Slot → Operands → Bool
  some_reads_slot test slots Operands.End = false
  some_reads_slot test slots (Operands.With r rs) = reads_slot test slots r || some_reads_slot test slots rs

-- the input of this number is read in the expression
abbrev pub is_read : List Slot → ℕ → Resolved → Bool
is_read slots k r = reads_slot (is_this_input k) slots r

-- it is in one of these
abbrev pub is_read_in : Program → List Resolved → ℕ → Bool
is_read_in p parts k = list_any (is_read (slots_of p) k) parts

-- the numbers of the inputs that some of these expressions read, in their order
abbrev pub reads_of : Program → List Resolved → List ℕ
reads_of p parts = filter (is_read_in p parts) (range_with_len 0 (input_count p))

-- both give the inputs of these numbers the same values
abbrev pub AgreeOn : List ℕ → List Value → List Value → Type 0
AgreeOn reads u v = (i : ℕ) → i < length reads → slice_get u (slice_index_or reads i 0) ≡ slice_get v (slice_index_or reads i 0)
