-- A trace as a picture (SVG 1.1): a row for each name, with a line for TRUE and FALSE and a bus with its values for all
-- others. The times of the loop are shaded. An own choice of this project. Texts are escaped, and each element is
-- closed where it is opened.
use Rattle.std.specs.Prelude.{ℕ, ◌+◌, ◌-◌, ◌*◌, ◌==◌, Bool, not, ◌||◌, if◌then◌else◌, List, [], ◌∷◌, ◌++◌, length, max, min, codes, bytes_eq, encode_utf8, Option, None, Some}
use Rattle.std.specs.Fmt.{decimal}
use Rattle.std.specs.Str.{chars}
use Rattle.trace_lines.specs.declared.entry.Binding.{Binding}
use Rattle.trace_table.specs.declared.kinds.Kind.{Kind}
use Rattle.trace_table.specs.declared.kinds.Kind.TheVariants.{Bit, Bits, Number, Symbol}
use Rattle.trace_view.specs.declared.svg.Grid.{Grid}
use Rattle.trace_lines.specs.declared.trace.Trace.{Trace}
use Rattle.trace_table.specs.Cells.{shown, value_at, value_before}
use Rattle.trace_table.specs.Kinds.{column_kind}
use Rattle.trace_lines.specs.Reading.{head_row}
use Rattle.trace_table.specs.Table.{name_width, time, title, widths}

-- a character, where it stands between tags
abbrev pub escaped_char : ℕ → List ℕ
escaped_char c = if c == 38 then codes "&amp;" else if c == 60 then codes "&lt;" else if c == 62 then codes "&gt;" else encode_utf8 c

abbrev pub escaped_chars : List ℕ → List ℕ
escaped_chars [] = []
escaped_chars (c ∷ cs) = escaped_char c ++ escaped_chars cs

abbrev pub escaped : List ℕ → List ℕ
escaped text = escaped_chars (chars text)

-- a byte that neither begins nor ends a tag
abbrev pub is_plain : ℕ → Bool
is_plain b = not (b == 60 || b == 62)

-- The elements.

abbrev pub text_at : ℕ → ℕ → List ℕ → List ℕ
text_at x y text = codes "<text x='" ++ decimal x ++ codes "' y='" ++ decimal y ++ codes "'>" ++ escaped text ++ codes "</text>\n"

abbrev pub shade : ℕ → ℕ → ℕ → List ℕ
shade x width height = codes "<rect x='" ++ decimal x ++ codes "' width='" ++ decimal width ++ codes "' height='" ++ decimal height ++ codes "' fill='#fd8'/>\n"

-- what stands between these is the path
abbrev pub path_begin : List ℕ
path_begin = codes "<path d='"

abbrev pub path_end : List ℕ
path_end = codes "'/>\n"

-- Places. A column is as wide as its widest text, up to a hundred characters of 8 units, and a row is 24 units high.

abbrev pub widest_of : List ℕ → ℕ
widest_of [] = 0
widest_of (w ∷ ws) = max w (widest_of ws)

abbrev pub units : ℕ → ℕ
units w = 24 + 8 * min w 100

abbrev pub grid_of : Trace → Grid
grid_of t = record { left = units (name_width t); step = units (widest_of (widths t)) }

-- where time i begins
abbrev pub x_of : Grid → ℕ → ℕ
x_of g i = g.left + g.step * i

-- where the rows of the states begin, and those of the inputs, below the times
abbrev pub states_top : ℕ
states_top = 24

abbrev pub inputs_top : Trace → ℕ
inputs_top t = 24 + 24 * length (head_row t.states)

-- the whole height
abbrev pub bottom : Trace → ℕ
bottom t = inputs_top t + 24 * length (head_row t.inputs)

-- the beginning of a line at the height y
abbrev pub start_text : Grid → ℕ → List ℕ
start_text g y = codes "M" ++ decimal g.left ++ codes " " ++ decimal y

-- Lines of TRUE and FALSE, in a row that begins at the height y.

abbrev pub level : Option (List ℕ) → ℕ
level None = 12
level (Some text) = if bytes_eq text (codes "TRUE") then 4 else 20

abbrev pub level_text : List (List Binding) → Grid → ℕ → ℕ → ℕ → List ℕ
level_text rows g y j i = codes "V" ++ decimal (y + level (value_at rows i j)) ++ codes "H" ++ decimal (x_of g i + g.step)

-- at the times of these states, from i on
abbrev pub levels_text : List (List Binding) → Grid → ℕ → ℕ → ℕ → List (List Binding) → List ℕ
levels_text rows g y j i [] = []
levels_text rows g y j i (s ∷ ss) = level_text rows g y j i ++ levels_text rows g y j (i + 1) ss

abbrev pub line_wave : Trace → List (List Binding) → Grid → ℕ → ℕ → List ℕ
line_wave t rows g y j = path_begin ++ start_text g (y + level (value_at rows 0 j)) ++ levels_text rows g y j 0 t.states ++ path_end

-- Buses, in a row that begins at the height y.

-- the same is shown as at the time before
abbrev pub is_old : List (List Binding) → ℕ → ℕ → Bool
is_old rows i j = bytes_eq (shown (value_before rows i j)) (shown (value_at rows i j))

abbrev pub edge_text : List (List Binding) → Grid → ℕ → ℕ → ℕ → List ℕ
edge_text rows g y j i = if is_old rows i j then [] else codes "M" ++ decimal (x_of g i) ++ codes " " ++ decimal (y + 4) ++ codes "v16"

abbrev pub edges_text : List (List Binding) → Grid → ℕ → ℕ → ℕ → List (List Binding) → List ℕ
edges_text rows g y j i [] = []
edges_text rows g y j i (s ∷ ss) = edge_text rows g y j i ++ edges_text rows g y j (i + 1) ss

abbrev pub label_text : List (List Binding) → Grid → ℕ → ℕ → ℕ → List ℕ
label_text rows g y j i = if is_old rows i j then [] else text_at (x_of g i + 6) (y + 17) (shown (value_at rows i j))

abbrev pub labels_text : List (List Binding) → Grid → ℕ → ℕ → ℕ → List (List Binding) → List ℕ
labels_text rows g y j i [] = []
labels_text rows g y j i (s ∷ ss) = label_text rows g y j i ++ labels_text rows g y j (i + 1) ss

-- a line from the first time to the last
abbrev pub rail_text : Trace → Grid → ℕ → List ℕ
rail_text t g y = start_text g y ++ codes "H" ++ decimal (x_of g (length t.states))

abbrev pub rails_text : Trace → Grid → ℕ → List ℕ
rails_text t g y = rail_text t g (y + 4) ++ rail_text t g (y + 20)

abbrev pub bus_path : Trace → List (List Binding) → Grid → ℕ → ℕ → List ℕ
bus_path t rows g y j = path_begin ++ rails_text t g y ++ edges_text rows g y j 0 t.states ++ path_end

abbrev pub bus_wave : Trace → List (List Binding) → Grid → ℕ → ℕ → List ℕ
bus_wave t rows g y j = bus_path t rows g y j ++ labels_text rows g y j 0 t.states

unfoldable pub wave : Trace → List (List Binding) → Grid → Kind → ℕ → ℕ → List ℕ
wave t rows g Bit y j = line_wave t rows g y j
wave t rows g (Bits w) y j = bus_wave t rows g y j
wave t rows g Number y j = bus_wave t rows g y j
wave t rows g Symbol y j = bus_wave t rows g y j

abbrev pub row_text : Trace → List (List Binding) → Grid → ℕ → ℕ → List ℕ → List ℕ
row_text t rows g y j name = text_at 8 (y + 17) name ++ wave t rows g (column_kind rows j) y j

-- the rows of these names, in columns from j on; that of column 0 begins at the height `top`
abbrev pub rows_text : Trace → List (List Binding) → Grid → ℕ → ℕ → List Binding → List ℕ
rows_text t rows g top j [] = []
rows_text t rows g top j (b ∷ bs) = row_text t rows g (top + 24 * j) j b.name ++ rows_text t rows g top (j + 1) bs

-- the times of these states, from i on
abbrev pub times_text : Trace → Grid → ℕ → List (List Binding) → List ℕ
times_text t g i [] = []
times_text t g i (s ∷ ss) = text_at (x_of g i + 6) 17 (time t i) ++ times_text t g (i + 1) ss

abbrev pub loop_shade : Trace → Grid → Option ℕ → List ℕ
loop_shade t g None = []
loop_shade t g (Some start) = shade (x_of g start) (g.step * (length t.states - start)) (bottom t)

unfoldable pub root_text : List ℕ
root_text = codes "<svg xmlns='http://www.w3.org/2000/svg' "

unfoldable pub style_text : List ℕ
style_text = codes "<style>text{font:13px monospace}path{fill:none;stroke:#036}</style>\n"

abbrev pub size_text : ℕ → ℕ → List ℕ
size_text width height = codes "width='" ++ decimal width ++ codes "' height='" ++ decimal height ++ codes "'>\n"

unfoldable pub head_text : Trace → Grid → List ℕ
head_text t g =
    root_text ++ size_text (x_of g (length t.states) + 8) (bottom t + 8) ++ style_text ++ loop_shade t g t.start
    ++ text_at 8 17 (title t) ++ times_text t g 0 t.states

abbrev pub states_text : Trace → Grid → List ℕ
states_text t g = rows_text t t.states g states_top 0 (head_row t.states)

abbrev pub inputs_text : Trace → Grid → List ℕ
inputs_text t g = rows_text t t.inputs g (inputs_top t) 0 (head_row t.inputs)

abbrev pub picture_with : Trace → Grid → List ℕ
picture_with t g = head_text t g ++ states_text t g ++ inputs_text t g ++ codes "</svg>\n"

-- the picture of a trace
unfoldable pub svg_text : Trace → List ℕ
svg_text t = picture_with t (grid_of t)
