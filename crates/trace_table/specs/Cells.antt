-- The values of a trace: a row is the bindings of a state, or of the inputs of a step, and a column the values of one
-- name.
use Rattle.std.specs.Prelude.{ℕ, ◌-◌, ◌==◌, Bool, false, not, if◌then◌else◌, List, bytes_eq, codes, Option, None, Some, slice_get}
use Rattle.trace_lines.specs.declared.entry.Binding.{Binding}

abbrev pub value_of : Option Binding → Option (List ℕ)
value_of None = None
value_of (Some b) = Some b.value

abbrev pub value_in : Option (List Binding) → ℕ → Option (List ℕ)
value_in None j = None
value_in (Some row) j = value_of (slice_get row j)

-- the value at time i in column j, if there is one: a run has no inputs at its last state
abbrev pub value_at : List (List Binding) → ℕ → ℕ → Option (List ℕ)
value_at rows i j = value_in (slice_get rows i) j

-- the value at the time before
abbrev pub value_before : List (List Binding) → ℕ → ℕ → Option (List ℕ)
value_before rows i j = if i == 0 then None else value_at rows (i - 1) j

-- a value, or `-` where there is none
abbrev pub shown : Option (List ℕ) → List ℕ
shown None = codes "-"
shown (Some value) = value

-- a value that is another than that before; the first is none
abbrev pub is_changed : Option (List ℕ) → Option (List ℕ) → Bool
is_changed None now = false
is_changed (Some before) None = false
is_changed (Some before) (Some now) = not (bytes_eq before now)
