-- What the words ask for, and what is written for a report.
use Rattle.std.specs.Prelude.{ℕ, ◌==◌, if◌then◌else◌, List, [], ◌∷◌, ◌++◌, find, codes, bytes_eq, Option, None, Some, Result, Ok, Err}
use Rattle.std.specs.Fmt.{decimal}
use Rattle.trace_view.specs.declared.answer.Answer.{Answer}
use Rattle.trace_view.specs.declared.command.Command.{Command}
use Rattle.trace_view.specs.declared.command.Form.{Form}
use Rattle.trace_view.specs.declared.command.Form.TheVariants.{Svg, Table, Vcd}
use Rattle.trace_lines.specs.declared.trace.Trace.{Trace}
use Rattle.trace_lines.specs.Lines.{number_of}
use Rattle.trace_lines.specs.Reading.{report_read}
use Rattle.trace_view.specs.Svg.{svg_text}
use Rattle.trace_table.specs.Table.{table_text, tables_text}
use Rattle.trace_view.specs.Vcd.{vcd_text}

-- `table`, `vcd` or `svg`
abbrev pub form_of : List ℕ → Option Form
form_of word =
    if bytes_eq word (codes "table") then Some Table else
    if bytes_eq word (codes "vcd") then Some Vcd else
    if bytes_eq word (codes "svg") then Some Svg else
    None

abbrev pub command_with : Option Form → Option ℕ → Option Command
command_with None spec = None
command_with (Some form) spec = Some (record { form = form; spec = spec })

-- a form, and a number behind it
abbrev pub numbered_command : Option Form → Option ℕ → Option Command
numbered_command form None = None
numbered_command form (Some n) = command_with form (Some n)

-- a form, perhaps with the number of a specification behind it
abbrev pub command_of : List (List ℕ) → Option Command
command_of (form ∷ []) = command_with (form_of form) None
command_of (form ∷ spec ∷ []) = numbered_command (form_of form) (number_of spec)
command_of other = None

abbrev pub no_trace : Answer
no_trace = record { status = 1; text = codes "-- no such trace\n" }

abbrev pub several : Answer
several = record { status = 1; text = codes "-- several traces: name a specification\n" }

-- the same line as of a report that `recheck` refuses
abbrev pub refused : ℕ → Answer
refused line = record { status = 3; text = codes "-- refused 702 BadTrace at " ++ decimal line ++ codes ":1\n" }

unfoldable pub form_text : Form → Trace → List ℕ
form_text Table t = table_text t
form_text Vcd t = vcd_text t
form_text Svg t = svg_text t

abbrev pub shown_one : Form → Trace → Answer
shown_one form t = record { status = 0; text = form_text form t }

-- all traces of a report: a table shows each, and the other forms show one
abbrev pub shown_all : Form → List Trace → Answer
shown_all form [] = no_trace
shown_all form (t ∷ []) = shown_one form t
shown_all Table (t ∷ u ∷ ts) = record { status = 0; text = tables_text (t ∷ u ∷ ts) }
shown_all Vcd (t ∷ u ∷ ts) = several
shown_all Svg (t ∷ u ∷ ts) = several

abbrev pub shown_found : Form → Option Trace → Answer
shown_found form None = no_trace
shown_found form (Some t) = shown_one form t

-- the trace of a specification, or all of them
abbrev pub shown_of : Form → Option ℕ → List Trace → Answer
shown_of form None ts = shown_all form ts
shown_of form (Some n) ts = shown_found form (find (λ (t : Trace). t.spec == n) ts)

abbrev pub answer_read : Command → Result (List Trace) ℕ → Answer
answer_read c (Err line) = refused line
answer_read c (Ok ts) = shown_of c.form c.spec ts

-- what is written for a report, and the status
unfoldable pub answer_of : Command → List ℕ → Answer
answer_of c report = answer_read c (report_read report)
