-- The times at which a slot is assigned so far.
use Rattle.std.specs.Prelude.{◌≡◌, ℕ, ◌==◌, Bool, true, false, ◌&&◌, ◌||◌, List, slice_index_or}
use Rattle.std.specs.List.{list_any}
use Rattle.smv_tree.specs.declared.tree.AssignmentKind.{AssignmentKind}
use Rattle.smv_tree.specs.declared.tree.AssignmentKind.TheVariants as side
use Rattle.smv_flat.specs.declared.twice.Taken.{Taken}
use Rattle.smv_flat.specs.Assignments.{SlotAssignment, kinds_meet}

-- the slot is not assigned
abbrev pub free : Taken
free = record { first = false; next = false }

-- an assignment of this kind speaks of a time at which the slot is assigned
abbrev pub is_taken : Taken → AssignmentKind → Bool
is_taken taken side.Init = taken.first
is_taken taken side.Next = taken.next
is_taken taken side.Current = taken.first || taken.next

-- the slot is assigned by an assignment of this kind too
abbrev pub taken_by : Taken → AssignmentKind → Taken
taken_by taken side.Init = record taken { first = true }
taken_by taken side.Next = record taken { next = true }
taken_by taken side.Current = record { first = true; next = true }

-- the times at which the slot of this number is assigned
abbrev pub taken_at : List Taken → ℕ → Taken
taken_at taken n = slice_index_or taken n free

-- one of these assignments meets an assignment of this kind to slot n
abbrev pub any_meets : List SlotAssignment → ℕ → AssignmentKind → Bool
any_meets before n kind = list_any (λ (b : SlotAssignment). b.slot == n && kinds_meet b.kind kind) before

-- the marks say which assignments would meet one of these
abbrev pub Knows : List Taken → List SlotAssignment → Type 0
Knows taken before = (n : ℕ) (kind : AssignmentKind) → is_taken (taken_at taken n) kind ≡ any_meets before n kind
