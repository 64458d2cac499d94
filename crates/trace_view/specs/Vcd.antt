-- A trace as a value change dump (IEEE 1364-2005, 18, Value change dump files), with strings as GTKWave reads them. A
-- step takes 1 ns. A loop is gone through twice; `loop` is 0 before it, 1 in the first round and 2 in the second.
use Rattle.std.specs.Prelude.{ℕ, ◌+◌, ◌-◌, ◌==◌, Bool, false, if◌then◌else◌, List, [], ◌∷◌, ◌++◌, length, drop, codes, bytes_eq, Option, None, Some}
use Rattle.std.specs.Fmt.{decimal}
use Rattle.trace_lines.specs.declared.entry.Binding.{Binding}
use Rattle.trace_table.specs.declared.kinds.Kind.{Kind}
use Rattle.trace_table.specs.declared.kinds.Kind.TheVariants.{Bit, Bits, Number, Symbol}
use Rattle.trace_table.specs.declared.kinds.Word.{Word}
use Rattle.trace_lines.specs.declared.trace.Trace.{Trace}
use Rattle.trace_view.specs.declared.vcd.Kinds.{Kinds}
use Rattle.trace_table.specs.Cells.{shown, value_at}
use Rattle.trace_table.specs.Kinds.{bits_text, column_kind, kinds_from, word_of}
use Rattle.trace_lines.specs.Reading.{head_row}

-- the type of a variable, and its size
abbrev pub type_text : Kind → List ℕ
type_text Bit = codes "wire 1"
type_text (Bits w) = codes "wire " ++ decimal w
type_text Number = codes "real 64"
type_text Symbol = codes "string 1"

-- a variable; its code is a letter and the number of the column
abbrev pub var_text : Kind → List ℕ → ℕ → List ℕ → List ℕ
var_text k letter j name = codes "$var " ++ type_text k ++ codes " " ++ letter ++ decimal j ++ codes " " ++ name ++ codes " $end\n"

-- those of these names, from column j on
abbrev pub vars_text : List (List Binding) → List ℕ → ℕ → List Binding → List ℕ
vars_text rows letter j [] = []
vars_text rows letter j (b ∷ bs) = var_text (column_kind rows j) letter j b.name ++ vars_text rows letter (j + 1) bs

abbrev pub loop_var : Option ℕ → List ℕ
loop_var None = []
loop_var (Some start) = codes "$var wire 2 loop loop $end\n"

-- Values: `x` is an unknown bit, and so are inputs where a trace has none.
abbrev pub scalar : Option (List ℕ) → List ℕ
scalar None = codes "x"
scalar (Some text) = if bytes_eq text (codes "TRUE") then codes "1" else codes "0"

abbrev pub word_bits : Option Word → List ℕ
word_bits None = codes "x"
word_bits (Some w) = bits_text w.width w.bits

abbrev pub vector : Option (List ℕ) → List ℕ
vector None = codes "x"
vector (Some text) = word_bits (word_of text)

abbrev pub real : Option (List ℕ) → List ℕ
real None = codes "nan"
real (Some text) = text

unfoldable pub value_text : Kind → Option (List ℕ) → List ℕ
value_text Bit value = scalar value
value_text (Bits w) value = codes "b" ++ vector value ++ codes " "
value_text Number value = codes "r" ++ real value ++ codes " "
value_text Symbol value = codes "s" ++ shown value ++ codes " "

-- the value in column j at time i is that at another time, if there is one
abbrev pub is_same : List (List Binding) → Option ℕ → ℕ → ℕ → Bool
is_same rows None i j = false
is_same rows (Some before) i j = bytes_eq (shown (value_at rows before j)) (shown (value_at rows i j))

abbrev pub change_text : List (List Binding) → List ℕ → Option ℕ → ℕ → ℕ → Kind → List ℕ
change_text rows letter before i j k = if is_same rows before i j then [] else value_text k (value_at rows i j) ++ letter ++ decimal j ++ codes "\n"

-- what has changed in the columns of these kinds, from j on
abbrev pub changes_text : List (List Binding) → List ℕ → Option ℕ → ℕ → ℕ → List Kind → List ℕ
changes_text rows letter before i j [] = []
changes_text rows letter before i j (k ∷ ks) = change_text rows letter before i j k ++ changes_text rows letter before i (j + 1) ks

-- where a round of the loop begins, of a trace of so many states
abbrev pub loop_text : Option ℕ → ℕ → ℕ → List ℕ
loop_text None count time = []
loop_text (Some start) count time =
    if time == count then codes "b10 loop\n" else if time == start then codes "b1 loop\n" else if time == 0 then codes "b0 loop\n" else []

abbrev pub moment_text : Trace → Kinds → ℕ → Option ℕ → ℕ → List ℕ
moment_text t ks time before i =
    codes "#" ++ decimal time ++ codes "\n" ++ loop_text t.start (length t.states) time ++ changes_text t.states (codes "s") before i 0 ks.states ++ changes_text t.inputs (codes "i") before i 0 ks.inputs

-- the state that is shown before state i, which is shown as number k
abbrev pub before_at : Option ℕ → ℕ → ℕ → Option ℕ
before_at first k i = if k == 0 then first else Some (i - 1)

-- these states, which are numbered from start on, at the times from `time` on; the first is shown behind this one; k
-- are shown
abbrev pub round_text : Trace → Kinds → ℕ → Option ℕ → ℕ → ℕ → List (List Binding) → List ℕ
round_text t ks time first start k [] = []
round_text t ks time first start k (row ∷ rows) = moment_text t ks (time + k) (before_at first k (start + k)) (start + k) ++ round_text t ks time first start (k + 1) rows

abbrev pub second_round : Trace → Kinds → Option ℕ → List ℕ
second_round t ks None = []
second_round t ks (Some start) = round_text t ks (length t.states) (Some (length t.states - 1)) start 0 (drop start t.states)

abbrev pub end_time : Option ℕ → ℕ → ℕ
end_time None count = count
end_time (Some start) count = count + (count - start)

unfoldable pub unit_text : List ℕ
unit_text = codes "$version smvtrace $end\n$timescale 1 ns $end\n"

abbrev pub scope_text : ℕ → List ℕ
scope_text spec = codes "$scope module spec_" ++ decimal spec ++ codes " $end\n"

unfoldable pub end_text : List ℕ
end_text = codes "$upscope $end\n$enddefinitions $end\n"

abbrev pub head_text : Trace → List ℕ
head_text t =
    unit_text ++ scope_text t.spec ++ loop_var t.start ++ vars_text t.states (codes "s") 0 (head_row t.states) ++ vars_text t.inputs (codes "i") 0 (head_row t.inputs) ++ end_text

abbrev pub changes_with : Trace → Kinds → List ℕ
changes_with t ks =
    round_text t ks 0 None 0 0 t.states
    ++ second_round t ks t.start
    ++ codes "#" ++ decimal (end_time t.start (length t.states)) ++ codes "\n"

abbrev pub kinds_of : Trace → Kinds
kinds_of t = record { states = kinds_from t.states 0 (head_row t.states); inputs = kinds_from t.inputs 0 (head_row t.inputs) }

-- the value change dump of a trace
unfoldable pub vcd_text : Trace → List ℕ
vcd_text t = head_text t ++ changes_with t (kinds_of t)
