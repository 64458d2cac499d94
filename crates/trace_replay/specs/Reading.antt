-- Which lines hold which traces. Lines are those of a source that begin with `--@`, without their line feeds.
use Rattle.std.specs.Prelude.{◌≡◌, ℕ, ◌+◌, ◌-◌, ◌^◌, ◌==◌, nat_lt, Bool, true, false, ◌&&◌, if◌then◌else◌, List, [], ◌∷◌, ◌++◌, length, map, take, fold, replicate, Option, None, Some, slice_get, slice_set}
use Rattle.std.specs.List.{list_all}
use Rattle.std.specs.Option.{option_map}
use Rattle.smv_tree.specs.declared.refusal.Refusal.{Refusal}
use Rattle.smv_tree.specs.declared.refusal.Rule.TheVariants.{BadTrace}
use Rattle.smv_tree.specs.declared.refusal.TextStop.{TextStop}
use Rattle.smv_tree.specs.declared.refusal.TextStop.TheVariants.{NoMemory, Refused}
use Rattle.trace_replay.specs.declared.entry.Binding.{Binding}
use Rattle.trace_replay.specs.declared.entry.TraceLine.{TraceLine}
use Rattle.trace_replay.specs.declared.entry.TraceLine.TheVariants as entry
use Rattle.trace_replay.specs.declared.reading.Block.{Block}
use Rattle.trace_replay.specs.declared.reading.Reading.{Reading}
use Rattle.trace_replay.specs.declared.source.Line.{Line}
use Rattle.trace_replay.specs.declared.trace.Trace.{Trace}
use Rattle.trace_replay.specs.Forms.{is_name, is_value}
use Rattle.trace_replay.specs.Lines.{entry_text}

-- a number of 64 bits
abbrev pub is_small : ℕ → Bool
is_small n = nat_lt n (2 ^ 64)

abbrev pub is_binding : Binding → Bool
is_binding b = is_name b.name && is_value b.value

-- names, values and numbers are such as may stand in a line
abbrev pub in_form : TraceLine → Bool
in_form (entry.Spec n) = is_small n
in_form (entry.State i bs) = is_small i && list_all is_binding bs
in_form (entry.Input i bs) = is_small i && list_all is_binding bs
in_form (entry.Loop n) = is_small n

-- What may follow what. The traces that are read so far are listed by the numbers of their specifications, each of
-- which has one at most; the last one is open.

abbrev pub no_trace : Trace
no_trace = record { states = []; inputs = []; start = None }

-- the traces, the open one among them
abbrev pub closed_with : List (Option Trace) → Option Block → List (Option Trace)
closed_with done None = done
closed_with done (Some b) = slice_set done (b.spec - 1) (Some b.trace)

abbrev pub closed : Reading → List (Option Trace)
closed r = closed_with r.done r.current

-- there is such a specification, and no trace of it yet
abbrev pub is_free : Option (Option Trace) → Bool
is_free None = false
is_free (Some None) = true
is_free (Some (Some t)) = false

abbrev pub may_begin : ℕ → List (Option Trace) → Bool
may_begin n done = nat_lt 0 n && is_free (slice_get done (n - 1))

abbrev pub begun_with : ℕ → List (Option Trace) → Option Reading
begun_with n done = if may_begin n done then Some (record { done = done; current = Some (record { spec = n; trace = no_trace }) }) else None

-- it has no line that says where its loop begins
abbrev pub is_unlooped : Option ℕ → Bool
is_unlooped None = true
is_unlooped (Some n) = false

-- A trace with one more line: states are numbered from 0 in their order, and so are inputs; nothing comes behind
-- `loop`.
abbrev pub with_state : ℕ → List Binding → Trace → Option Trace
with_state i bs t = if is_unlooped t.start && i == length t.states then Some (record t { states = t.states ++ bs ∷ [] }) else None

abbrev pub with_input : ℕ → List Binding → Trace → Option Trace
with_input i bs t = if is_unlooped t.start && i == length t.inputs then Some (record t { inputs = t.inputs ++ bs ∷ [] }) else None

abbrev pub with_loop : ℕ → Trace → Option Trace
with_loop n t = if is_unlooped t.start then Some (record t { start = Some n }) else None

abbrev pub kept_open : List (Option Trace) → ℕ → Option Trace → Option Reading
kept_open done n None = None
kept_open done n (Some t) = Some (record { done = done; current = Some (record { spec = n; trace = t }) })

abbrev pub changed_with : (Trace → Option Trace) → List (Option Trace) → Option Block → Option Reading
changed_with change done None = None
changed_with change done (Some b) = kept_open done b.spec (change b.trace)

-- what is read with one more line, if it may stand there
abbrev pub followed : Reading → TraceLine → Option Reading
followed r (entry.Spec n) = begun_with n (closed r)
followed r (entry.State i bs) = changed_with (with_state i bs) r.done r.current
followed r (entry.Input i bs) = changed_with (with_input i bs) r.done r.current
followed r (entry.Loop n) = changed_with (with_loop n) r.done r.current

abbrev pub followed_by : Option Reading → TraceLine → Option Reading
followed_by None e = None
followed_by (Some r) e = followed r e

-- nothing is read, of so many specifications
abbrev pub nothing_read : ℕ → Reading
nothing_read specs = record { done = replicate specs None; current = None }

abbrev pub all_read : ℕ → List TraceLine → Option Reading
all_read specs es = fold followed_by (Some (nothing_read specs)) es

-- these lines hold just these traces, where there are so many specifications
pub record Holds (specs : ℕ) (lines : List (List ℕ)) (traces : List (Option Trace)) : Type 0 where
  pub entries : List TraceLine
  pub formed : list_all in_form entries ≡ true
  pub text : lines ≡ map entry_text entries
  pub told : option_map closed (all_read specs entries) ≡ Some traces

abbrev pub texts : List Line → List (List ℕ)
texts lines = map (λ (l : Line). l.text) lines

abbrev pub refusal_at : ℕ → Refusal
refusal_at line = record { rule = BadTrace; place = record { line = line; column = 1 }; detail = None }

-- The lines are refused so: this is the first that is not as it should be. Those before it hold traces, and with it
-- they hold none.
pub record IsRefusedAt (specs : ℕ) (lines : List Line) (r : Refusal) : Type 0 where
  pub before : ℕ
  pub line : Line
  pub here : slice_get lines before ≡ Some line
  pub traces : List (Option Trace)
  pub good : Holds specs (take before (texts lines)) traces
  pub bad : (ts : List (Option Trace)) → Holds specs (take (before + 1) (texts lines)) ts → ⊥
  pub told : r ≡ refusal_at line.number

-- the lines are refused so; or memory was refused, which may come at any time
abbrev pub IsLinesStop : ℕ → List Line → TextStop → Type 0
IsLinesStop specs lines (Refused r) = IsRefusedAt specs lines r
IsLinesStop specs lines NoMemory = Unit {0}
