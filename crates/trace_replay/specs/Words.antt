-- Lines as words, with single spaces between.
use Rattle.std.specs.Prelude.{◌≡◌, ℕ, ◌^◌, ◌<◌, ◌==◌, Bool, true, false, ◌&&◌, if◌then◌else◌, List, [], ◌∷◌, ◌++◌, codes, bytes_eq, Option, None, Some}
use Rattle.std.specs.Fmt.{decimal}
use Rattle.std.specs.List.{slice_split}
use Rattle.trace_replay.specs.declared.entry.Binding.{Binding}
use Rattle.trace_replay.specs.declared.entry.TraceLine.{TraceLine}
use Rattle.trace_replay.specs.declared.entry.TraceLine.TheVariants as entry
use Rattle.trace_replay.specs.Forms.{is_name, is_value}
use Rattle.trace_replay.specs.Lines.{entry_text}
use Rattle.trace_replay.specs.Reading.{in_form}

abbrev pub words : List ℕ → List (List ℕ)
words text = slice_split (λ b. b == 32) text

-- a value, behind which a comma stands where more bindings follow
abbrev pub value_word : List ℕ → List Binding → List ℕ
value_word v [] = v
value_word v (b ∷ bs) = v ++ codes ","

abbrev pub binding_words : List Binding → List (List ℕ)
binding_words [] = []
binding_words (b ∷ bs) = b.name ∷ codes "=" ∷ value_word b.value bs ∷ binding_words bs

abbrev pub entry_words : TraceLine → List (List ℕ)
entry_words (entry.Spec n) = codes "--@" ∷ codes "spec" ∷ decimal n ∷ []
entry_words (entry.State i bs) = codes "--@" ∷ codes "state" ∷ (decimal i ++ codes ":") ∷ binding_words bs
entry_words (entry.Input i bs) = codes "--@" ∷ codes "input" ∷ (decimal i ++ codes ":") ∷ binding_words bs
entry_words (entry.Loop n) = codes "--@" ∷ codes "loop" ∷ decimal n ∷ []

-- Reading words back.

-- what stands before this last byte
abbrev pub in_front : ℕ → Option (List ℕ) → Option (List ℕ)
in_front b None = None
in_front b (Some bs) = Some (b ∷ bs)

abbrev pub without_last : ℕ → List ℕ → Option (List ℕ)
without_last c [] = None
without_last c (b ∷ []) = if b == c then Some [] else None
without_last c (b ∷ d ∷ bs) = in_front b (without_last c (d ∷ bs))

abbrev pub is_end : List (List ℕ) → Bool
is_end [] = true
is_end (w ∷ ws) = false

abbrev pub bound : List ℕ → Option (List ℕ) → Option Binding
bound name None = None
bound name (Some v) = if is_name name && is_value v then Some (record { name = name; value = v }) else None

-- three words, the last of which has a comma behind it unless it is the last
abbrev pub binding_in : List ℕ → List ℕ → List ℕ → Bool → Option Binding
binding_in name equals v last = if bytes_eq equals (codes "=") then bound name (if last then Some v else without_last 44 v) else None

abbrev pub with_binding : Option Binding → Option (List Binding) → Option (List Binding)
with_binding None bs = None
with_binding (Some b) None = None
with_binding (Some b) (Some bs) = Some (b ∷ bs)

abbrev pub bindings_in : List (List ℕ) → Option (List Binding)
bindings_in [] = Some []
bindings_in (a ∷ []) = None
bindings_in (a ∷ b ∷ []) = None
bindings_in (a ∷ b ∷ c ∷ ws) = with_binding (binding_in a b c (is_end ws)) (bindings_in ws)

-- the number of 64 bits of which this is the text, with no leading zero
abbrev pub IsNumber : List ℕ → Option ℕ → Type 0
IsNumber text None = (n : ℕ) → n < 2 ^ 64 → text ≡ decimal n → ⊥
IsNumber text (Some n) = (n < 2 ^ 64) × (text ≡ decimal n)

-- the same with a colon behind it
abbrev pub IsNumbered : List ℕ → Option ℕ → Type 0
IsNumbered text None = (n : ℕ) → n < 2 ^ 64 → text ≡ decimal n ++ codes ":" → ⊥
IsNumbered text (Some n) = (n < 2 ^ 64) × (text ≡ decimal n ++ codes ":")

-- what words say, if they are those of a line
abbrev pub AreWordsOf : List (List ℕ) → Option TraceLine → Type 0
AreWordsOf ws None = (e : TraceLine) → in_form e ≡ true → ws ≡ entry_words e → ⊥
AreWordsOf ws (Some e) = (in_form e ≡ true) × (ws ≡ entry_words e)

-- what a line says
abbrev pub IsLineOf : List ℕ → Option TraceLine → Type 0
IsLineOf text None = (e : TraceLine) → in_form e ≡ true → text ≡ entry_text e → ⊥
IsLineOf text (Some e) = (in_form e ≡ true) × (text ≡ entry_text e)
