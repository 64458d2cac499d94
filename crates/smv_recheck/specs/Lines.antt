-- The lines of traces in a text.
use Rattle.std.specs.Prelude.{ℕ, ◌+◌, Bool, nat_eq, if◌then◌else◌, List, [], ◌∷◌, codes}
use Rattle.std.specs.List.{starts_with}
use Rattle.cert_text.specs.Reading.{lines_of}
use Rattle.trace_replay.specs.declared.source.Line.{Line}

-- lines that begin so are of traces, wherever they stand
abbrev pub is_trace_line : List ℕ → Bool
is_trace_line line = starts_with nat_eq line (codes "--@")

-- those among these lines, each with its number, where the first of these has number n
abbrev pub trace_lines_from : ℕ → List (List ℕ) → List Line
trace_lines_from n [] = []
trace_lines_from n (line ∷ lines) =
    if is_trace_line line
    then record { number = n; text = line } ∷ trace_lines_from (n + 1) lines
    else trace_lines_from (n + 1) lines

-- the lines of traces in a text
abbrev pub trace_lines : List ℕ → List Line
trace_lines text = trace_lines_from 1 (lines_of text)
