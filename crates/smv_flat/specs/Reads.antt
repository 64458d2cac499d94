-- Which expressions read slots.
use Rattle.std.specs.Prelude.{ℕ, Bool, true, false, not, ◌&&◌, ◌||◌, List, map, slice_index_or}
use Rattle.std.specs.List.{list_any}
use Rattle.smv_resolve.specs.Resolved.{Operands, Resolved}
use Rattle.smv_flat.specs.declared.assigned.Assigned.{Assigned}
use Rattle.smv_flat.specs.declared.reads.Reads.{Reads}
use Rattle.smv_flat.specs.declared.time.Time.{Time}
use Rattle.smv_flat.specs.Assignments.{looks_ahead, speaks_of}

-- whether an expression reads some slot in the present state, or where it looks ahead, in the next one
abbrev mutual
  pub is_reading : Bool → Resolved → Bool
  is_reading ahead (Resolved.Constant place b) = false
  is_reading ahead (Resolved.Slot place n) = not ahead
  is_reading ahead (Resolved.Whole place i) = false
  is_reading ahead (Resolved.Named place naming r) = is_reading ahead r
  is_reading ahead (Resolved.Next place r) = ahead && is_reading false r
  is_reading ahead (Resolved.Apply place o rs) = is_some_reading ahead rs
  is_reading ahead Resolved.Stuck = false

  pub is_some_reading : Bool → Operands → Bool
  is_some_reading ahead Operands.End = false
  is_some_reading ahead (Operands.With r rs) = is_reading ahead r || is_some_reading ahead rs

abbrev pub reads_of : Resolved → Reads
reads_of r = record { present = is_reading false r; ahead = is_reading true r }

abbrev pub no_reads : Reads
no_reads = record { present = false; ahead = false }

-- what some of these read
abbrev pub any_of : List Reads → Reads
any_of all = record { present = list_any (λ (x : Reads). x.present) all; ahead = list_any (λ (x : Reads). x.ahead) all }

abbrev pub reads_by : Bool → Reads → Bool
reads_by true x = x.ahead
reads_by false x = x.present

-- the assignment gives no value of this time, or one that reads no slot of this time; the table has what each node
-- reads
abbrev pub is_quiet : Time → List Reads → Assigned → Bool
is_quiet time table a = not (speaks_of time a.kind && reads_by (looks_ahead a.kind) (slice_index_or table a.value no_reads))
