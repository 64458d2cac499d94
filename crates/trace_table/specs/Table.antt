-- A trace as a table: a row for each name, a column for each time. An own choice of this project.
use Rattle.std.specs.Prelude.{ℕ, ◌+◌, ◌-◌, ◌==◌, Bool, true, false, if◌then◌else◌, List, [], ◌∷◌, ◌++◌, length, max, replicate, codes, Option, None, Some}
use Rattle.std.specs.Fmt.{decimal}
use Rattle.trace_lines.specs.declared.entry.Binding.{Binding}
use Rattle.trace_lines.specs.declared.trace.Trace.{Trace}
use Rattle.trace_table.specs.Cells.{is_changed, shown, value_at, value_before}
use Rattle.trace_lines.specs.Reading.{head_row}

abbrev pub line_end : List ℕ
line_end = 10 ∷ []

abbrev pub spaces : ℕ → List ℕ
spaces n = replicate n 32

-- a value, with `*` in front where it has changed since the time before
abbrev pub mark : Bool → List ℕ
mark true = codes "*"
mark false = []

abbrev pub cell : List (List Binding) → ℕ → ℕ → List ℕ
cell rows i j = mark (is_changed (value_before rows i j) (value_at rows i j)) ++ shown (value_at rows i j)

-- a time, with brackets round the times of the loop
abbrev pub opening : Option ℕ → ℕ → List ℕ
opening None i = []
opening (Some start) i = if i == start then codes "[" else []

abbrev pub closing : Option ℕ → ℕ → ℕ → List ℕ
closing None i count = []
closing (Some start) i count = if i == count - 1 then codes "]" else []

abbrev pub time : Trace → ℕ → List ℕ
time t i = opening t.start i ++ (decimal i ++ closing t.start i (length t.states))

-- How wide a column is: as its widest text. These are the texts of one time, in the columns of these names from j on.
abbrev pub widest : List (List Binding) → ℕ → ℕ → List Binding → ℕ
widest rows i j [] = 0
widest rows i j (b ∷ bs) = max (length (cell rows i j)) (widest rows i (j + 1) bs)

abbrev pub width : Trace → ℕ → ℕ
width t i = max (max (widest t.states i 0 (head_row t.states)) (widest t.inputs i 0 (head_row t.inputs))) (length (time t i))

-- those of the times of these states, from i on
abbrev pub widths_from : Trace → ℕ → List (List Binding) → List ℕ
widths_from t i [] = []
widths_from t i (row ∷ rows) = width t i ∷ widths_from t (i + 1) rows

abbrev pub widths : Trace → List ℕ
widths t = widths_from t 0 t.states

abbrev pub title : Trace → List ℕ
title t = codes "spec " ++ decimal t.spec

abbrev pub widest_name : List Binding → ℕ
widest_name [] = 0
widest_name (b ∷ bs) = max (length b.name) (widest_name bs)

abbrev pub name_width : Trace → ℕ
name_width t = max (max (widest_name (head_row t.states)) (widest_name (head_row t.inputs))) (length (title t))

-- a text in a column of this width, at its left and at its right
abbrev pub at_left : ℕ → List ℕ → List ℕ
at_left w text = text ++ spaces (w - length text)

abbrev pub at_right : ℕ → List ℕ → List ℕ
at_right w text = spaces (w - length text) ++ text

-- the times from i on, in columns of these widths
abbrev pub times_text : Trace → ℕ → List ℕ → List ℕ
times_text t i [] = []
times_text t i (w ∷ ws) = codes "  " ++ at_right w (time t i) ++ times_text t (i + 1) ws

abbrev pub cells_text : List (List Binding) → ℕ → ℕ → List ℕ → List ℕ
cells_text rows j i [] = []
cells_text rows j i (w ∷ ws) = codes "  " ++ at_right w (cell rows i j) ++ cells_text rows j (i + 1) ws

-- the rows of these names, in columns from j on
abbrev pub rows_text : ℕ → List ℕ → List (List Binding) → ℕ → List Binding → List ℕ
rows_text first ws rows j [] = []
rows_text first ws rows j (b ∷ bs) = at_left first b.name ++ cells_text rows j 0 ws ++ line_end ++ rows_text first ws rows (j + 1) bs

abbrev pub table_with : ℕ → List ℕ → Trace → List ℕ
table_with first ws t =
    at_left first (title t) ++ times_text t 0 ws ++ line_end
    ++ rows_text first ws t.states 0 (head_row t.states)
    ++ rows_text first ws t.inputs 0 (head_row t.inputs)

-- the table of a trace
unfoldable pub table_text : Trace → List ℕ
table_text t = table_with (name_width t) (widths t) t

-- each behind an empty line
abbrev pub more_tables : List Trace → List ℕ
more_tables [] = []
more_tables (t ∷ ts) = line_end ++ table_text t ++ more_tables ts

abbrev pub tables_text : List Trace → List ℕ
tables_text [] = []
tables_text (t ∷ ts) = table_text t ++ more_tables ts
