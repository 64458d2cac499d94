-- The traces that a report holds.
use Rattle.std.specs.Prelude.{◌≡◌, ℕ, ◌+◌, ◌==◌, nat_lt, Bool, true, false, ◌&&◌, ◌||◌, if◌then◌else◌, List, [], ◌∷◌, ◌++◌, length, bytes_eq, Option, None, Some, Result, Ok, Err}
use Rattle.std.specs.List.{list_any}
use Rattle.trace_lines.specs.declared.entry.Binding.{Binding}
use Rattle.trace_lines.specs.declared.entry.TraceLine.{TraceLine}
use Rattle.trace_lines.specs.declared.entry.TraceLine.TheVariants as entry
use Rattle.trace_lines.specs.declared.reading.Reading.{Reading}
use Rattle.trace_lines.specs.declared.reading.ReadStop.{ReadStop}
use Rattle.trace_lines.specs.declared.reading.ReadStop.TheVariants as stop
use Rattle.trace_lines.specs.declared.trace.Trace.{Trace}
use Rattle.trace_lines.specs.Lines.{entry_read, is_trace_line, pieces}

-- the bindings of the same names as these, as far as both go
abbrev pub names_match : List Binding → List Binding → Bool
names_match [] bs = true
names_match (a ∷ more) [] = true
names_match (a ∷ more) (b ∷ bs) = bytes_eq a.name b.name && names_match more bs

abbrev pub same_names : List Binding → List Binding → Bool
same_names xs ys = length xs == length ys && names_match xs ys

-- the first of these rows, from which the others take their names
abbrev pub head_row : List (List Binding) → List Binding
head_row [] = []
head_row (r ∷ rows) = r

-- a row may follow these: it is the first, or has the names of the first
abbrev pub may_follow : List (List Binding) → List Binding → Bool
may_follow rows r = length rows == 0 || same_names (head_row rows) r

abbrev pub is_open : Option ℕ → Bool
is_open None = true
is_open (Some n) = false

-- A trace with one more line. States are numbered from 0 on, and so are inputs, each behind the state of its number. A
-- loop begins at a state of the trace, and nothing comes behind it.
abbrev pub with_state : ℕ → List Binding → Trace → Option Trace
with_state i row t = if is_open t.start && i == length t.states && may_follow t.states row then Some (record t { states = t.states ++ row ∷ [] }) else None

abbrev pub with_input : ℕ → List Binding → Trace → Option Trace
with_input i row t =
    if is_open t.start && i == length t.inputs && nat_lt i (length t.states) && may_follow t.inputs row then Some (record t { inputs = t.inputs ++ row ∷ [] }) else None

abbrev pub with_loop : ℕ → Trace → Option Trace
with_loop n t = if is_open t.start && nat_lt n (length t.states) then Some (record t { start = Some n }) else None

-- the traces that are read, with the last one, to which lines are still added
abbrev pub closed_with : List Trace → Option Trace → List Trace
closed_with done None = done
closed_with done (Some t) = done ++ t ∷ []

abbrev pub closed : Reading → List Trace
closed r = closed_with r.done r.current

-- there is a trace of this specification
abbrev pub has_trace : ℕ → List Trace → Bool
has_trace n ts = list_any (λ (t : Trace). t.spec == n) ts

abbrev pub new_trace : ℕ → Trace
new_trace n = record { spec = n; states = []; inputs = []; start = None }

-- a specification has one trace at most
abbrev pub begun_with : ℕ → List Trace → Option Reading
begun_with n done = if has_trace n done then None else Some (record { done = done; current = Some (new_trace n) })

abbrev pub kept_open : List Trace → Option Trace → Option Reading
kept_open done None = None
kept_open done (Some t) = Some (record { done = done; current = Some t })

abbrev pub changed : (Trace → Option Trace) → List Trace → Option Trace → Option Reading
changed change done None = None
changed change done (Some t) = kept_open done (change t)

-- what is read with one more line, if it may stand there
abbrev pub followed : Reading → TraceLine → Option Reading
followed r (entry.Spec n) = begun_with n (closed r)
followed r (entry.State i row) = changed (with_state i row) r.done r.current
followed r (entry.Input i row) = changed (with_input i row) r.done r.current
followed r (entry.Loop n) = changed (with_loop n) r.done r.current

abbrev pub followed_by : Reading → Option TraceLine → Option Reading
followed_by r None = None
followed_by r (Some e) = followed r e

-- one more line of the report
abbrev pub with_line : Reading → List ℕ → Option Reading
with_line r line = if is_trace_line line then followed_by r (entry_read line) else Some r

abbrev pub nothing_read : Reading
nothing_read = record { done = []; current = None }

-- What these lines add, which begin behind line n: all traces, or the number of the first line that is not as it should
-- be, counted from 1.
abbrev pub and_then : ℕ → Option Reading → (Reading → Result (List Trace) ℕ) → Result (List Trace) ℕ
and_then n None more = Err n
and_then n (Some r) more = more r

abbrev pub lines_read : ℕ → Reading → List (List ℕ) → Result (List Trace) ℕ
lines_read n r [] = Ok (closed r)
lines_read n r (l ∷ ls) = and_then (n + 1) (with_line r l) (λ s. lines_read (n + 1) s ls)

-- the traces of a report; or the number of its first line that is not as it should be
unfoldable pub report_read : List ℕ → Result (List Trace) ℕ
report_read report = lines_read 0 nothing_read (pieces 10 report)

-- the report was refused at this line; or memory was refused, which may come at any time
abbrev pub IsReadStop : Result (List Trace) ℕ → ReadStop → Type 0
IsReadStop read (stop.Line n) = read ≡ Err n
IsReadStop read stop.NoMemory = Unit {0}
