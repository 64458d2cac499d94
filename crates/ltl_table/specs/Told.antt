-- What a table says of each time.
use Rattle.std.specs.Prelude.{ℕ, ◌+◌, ◌-◌, ◌%◌, Bool, length, nat_lt, if◌then◌else◌}
use Rattle.ltl_table.specs.declared.table.Table.{Table}
use Rattle.ltl_table.specs.Columns.{at}

-- the value at a time: past the column's end times go round its last part, which begins at `start`
abbrev pub told : Table → ℕ → Bool
told table t =
    at table.column.items
    (if nat_lt t (length table.column.items) then t else table.start + (t - table.start) % (length table.column.items - table.start))
