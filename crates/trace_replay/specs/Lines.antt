-- The lines of a trace: an own choice of this project. Each is a comment of the language, and ends with a line feed.
use Rattle.std.specs.Prelude.{ℕ, List, [], ◌∷◌, ◌++◌, length, max, codes, Option, None, Some, slice_get}
use Rattle.std.specs.Fmt.{decimal}
use Rattle.std.specs.List.{flat_map, range_with_len}
use Rattle.smv_tree.specs.Texts.{line_end}
use Rattle.trace_replay.specs.declared.entry.Binding.{Binding}
use Rattle.trace_replay.specs.declared.entry.TraceLine.{TraceLine}
use Rattle.trace_replay.specs.declared.entry.TraceLine.TheVariants as entry
use Rattle.trace_replay.specs.declared.trace.Trace.{Trace}

-- NAME = VALUE
abbrev pub binding_text : Binding → List ℕ
binding_text b = b.name ++ (codes " = " ++ b.value)

-- each behind a comma
abbrev pub more_bindings : List Binding → List ℕ
more_bindings [] = []
more_bindings (b ∷ bs) = codes ", " ++ binding_text b ++ more_bindings bs

-- the first behind a space, the others behind a comma
abbrev pub bindings_text : List Binding → List ℕ
bindings_text [] = []
bindings_text (b ∷ bs) = codes " " ++ binding_text b ++ more_bindings bs

-- a line without its line feed; without slots that of a state ends at the colon
abbrev pub entry_text : TraceLine → List ℕ
entry_text (entry.Spec n) = codes "--@ spec " ++ decimal n
entry_text (entry.State i bs) = codes "--@ state " ++ decimal i ++ codes ":" ++ bindings_text bs
entry_text (entry.Input i bs) = codes "--@ input " ++ decimal i ++ codes ":" ++ bindings_text bs
entry_text (entry.Loop n) = codes "--@ loop " ++ decimal n

-- the line of a state, and that of the inputs of a step, where there is one of this number
abbrev pub state_entries : ℕ → Option (List Binding) → List TraceLine
state_entries i None = []
state_entries i (Some bs) = entry.State i bs ∷ []

abbrev pub input_entries : ℕ → Option (List Binding) → List TraceLine
input_entries i None = []
input_entries i (Some bs) = entry.Input i bs ∷ []

-- the line that says where the loop begins, if there is a loop
abbrev pub loop_entries : Option ℕ → List TraceLine
loop_entries None = []
loop_entries (Some n) = entry.Loop n ∷ []

-- a state, and the inputs of the step from it
abbrev pub moment_entries : Trace → ℕ → List TraceLine
moment_entries t i = state_entries i (slice_get t.states i) ++ input_entries i (slice_get t.inputs i)

-- the states in their order, each with the inputs of the step from it
abbrev pub moments : Trace → List TraceLine
moments t = flat_map (moment_entries t) (range_with_len 0 (max (length t.states) (length t.inputs)))

-- what stands behind the first line
abbrev pub body_entries : Trace → List TraceLine
body_entries t = moments t ++ loop_entries t.start

-- the lines of a trace of the specification of this number
abbrev pub entries_of : ℕ → Trace → List TraceLine
entries_of number t = entry.Spec number ∷ body_entries t

abbrev pub line_text : TraceLine → List ℕ
line_text e = entry_text e ++ line_end

abbrev pub trace_text : ℕ → Trace → List ℕ
trace_text number t = flat_map line_text (entries_of number t)
