-- What the lines of traces say, those of a report that begin with `--@`: `--@ spec N`,
-- `--@ state N: NAME = VALUE, NAME = VALUE`, `--@ input N:` with the same behind it, and `--@ loop N`. Without names
-- the line ends at the colon.
use Rattle.std.specs.Prelude.{ℕ, ◌==◌, nat_lt, nat_le, Bool, false, ◌&&◌, ◌||◌, if◌then◌else◌, List, [], ◌∷◌, length, take, codes, bytes_eq, slice_index, Option, None, Some}
use Rattle.std.specs.Char.{is_ascii_alphabetic, is_ascii_alphanumeric}
use Rattle.std.specs.List.{list_all, slice_split}
use Rattle.plain_text.specs.Decimals.{number_up_to}
use Rattle.trace_lines.specs.declared.entry.Binding.{Binding}
use Rattle.trace_lines.specs.declared.entry.TraceLine.{TraceLine}
use Rattle.trace_lines.specs.declared.entry.TraceLine.TheVariants as entry

-- what stands between the bytes that equal this one
abbrev pub pieces : ℕ → List ℕ → List (List ℕ)
pieces by text = slice_split (λ b. b == by) text

-- A name begins with a letter or "_", and goes on with letters, digits, "_", "$", "#", "-", ".", "[" and "]".
abbrev pub begins_name : ℕ → Bool
begins_name b = is_ascii_alphabetic b || b == 95

abbrev pub in_value : ℕ → Bool
in_value b = is_ascii_alphanumeric b || b == 95 || b == 36 || b == 35 || b == 45

abbrev pub in_name : ℕ → Bool
in_name b = in_value b || b == 46 || b == 91 || b == 93

abbrev pub is_name : List ℕ → Bool
is_name [] = false
is_name (b ∷ bs) = begins_name b && list_all in_name bs

-- A value is TRUE, FALSE, a symbol, an integer or a word: letters, digits, "_", "$", "#" and "-".
abbrev pub is_value : List ℕ → Bool
is_value text = nat_lt 0 (length text) && list_all in_value text

-- a number of 64 bits in decimal digits, with no leading zero
abbrev pub number_of : List ℕ → Option ℕ
number_of word = if nat_lt 1 (length word) && slice_index word 0 == 48 then None else number_up_to 18446744073709551615 word

abbrev pub bound : List ℕ → List ℕ → Option Binding
bound name value = if is_name name && is_value value then Some (record { name = name; value = value }) else None

-- a space, and NAME = VALUE
abbrev pub binding_of : List (List ℕ) → Option Binding
binding_of (lead ∷ name ∷ equals ∷ value ∷ []) = if bytes_eq lead [] && bytes_eq equals (codes "=") then bound name value else None
binding_of other = None

-- one more in front of others, where all are there
abbrev pub with_binding : Option Binding → Option (List Binding) → Option (List Binding)
with_binding None bs = None
with_binding (Some b) None = None
with_binding (Some b) (Some bs) = Some (b ∷ bs)

abbrev pub bindings_of : List (List ℕ) → Option (List Binding)
bindings_of [] = Some []
bindings_of (p ∷ ps) = with_binding (binding_of (pieces 32 p)) (bindings_of ps)

-- what stands behind the colon: nothing, or bindings with a comma between
abbrev pub bindings_in : List ℕ → Option (List Binding)
bindings_in rest = if length rest == 0 then Some [] else bindings_of (pieces 44 rest)

abbrev pub short_keyed : List ℕ → Option ℕ → Option TraceLine
short_keyed key None = None
short_keyed key (Some n) = if bytes_eq key (codes "spec") then Some (entry.Spec n) else if bytes_eq key (codes "loop") then Some (entry.Loop n) else None

abbrev pub long_keyed : List ℕ → Option ℕ → Option (List Binding) → Option TraceLine
long_keyed key None row = None
long_keyed key (Some n) None = None
long_keyed key (Some n) (Some row) = if bytes_eq key (codes "state") then Some (entry.State n row) else if bytes_eq key (codes "input") then Some (entry.Input n row) else None

-- three words, the first of which is `--@`
abbrev pub short_entry : List (List ℕ) → Option TraceLine
short_entry (mark ∷ key ∷ number ∷ []) = if bytes_eq mark (codes "--@") then short_keyed key (number_of number) else None
short_entry other = None

-- the same in front of a colon
abbrev pub long_entry : List (List ℕ) → Option (List Binding) → Option TraceLine
long_entry (mark ∷ key ∷ number ∷ []) row = if bytes_eq mark (codes "--@") then long_keyed key (number_of number) row else None
long_entry other row = None

abbrev pub entry_of : List (List ℕ) → Option TraceLine
entry_of (front ∷ []) = short_entry (pieces 32 front)
entry_of (front ∷ rest ∷ []) = long_entry (pieces 32 front) (bindings_in rest)
entry_of other = None

-- what a line says, if it is in form
unfoldable pub entry_read : List ℕ → Option TraceLine
entry_read line = entry_of (pieces 58 line)

-- the lines that are read; all others are passed over
abbrev pub is_trace_line : List ℕ → Bool
is_trace_line line = nat_le 3 (length line) && bytes_eq (take 3 line) (codes "--@")
