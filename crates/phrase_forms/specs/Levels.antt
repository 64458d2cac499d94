-- Languages whose phrases open levels: brackets, operators before an operand and the like. Such a language is a family
-- of forms: the n-th reads as the first does, and spells phrases that go up to n levels past the limit too.
use Rattle.std.specs.Prelude.{ℕ, ◌+◌, List, [], ◌∷◌, ◌++◌, length}
use Rattle.phrase_forms.specs.declared.fault.Fault.{Fault}
use Rattle.phrase_forms.specs.declared.fault.Fault.TheVariants.{Unexpected, TooDeep}
use Rattle.phrase_forms.specs.Forms.{Form}

-- The tokens spell the value. Levels past the limit are opened in the last k tokens alone.
abbrev pub SpellsWithin : {T A : Type 0} → (ℕ → Form T A) → ℕ → List T → A → Type 0
SpellsWithin forms k tokens value = (past : ℕ) × (forms past).yields k tokens value []

-- The tokens begin some phrase: levels past the limit are opened in the last m of them and in what follows alone.
abbrev pub BeginsWithin : {T A : Type 0} → (ℕ → Form T A) → ℕ → List T → Type 0
BeginsWithin {T} {A} forms m tokens = (more : List T) × (value : A) × SpellsWithin forms (m + length more) (tokens ++ more) value

-- The first of `rest` is the first token with which the tokens no longer begin a phrase, whatever its depth. Where
-- `rest` is empty, they begin one and end too early. Nothing before it is too deep.
abbrev pub IsUnexpectedWithin : {T A : Type 0} → (ℕ → Form T A) → List T → List T → Type 0
IsUnexpectedWithin {T} {A} forms before [] = BeginsWithin forms 0 before × ((k : ℕ) (value : A) → SpellsWithin forms k before value → ⊥)
IsUnexpectedWithin {T} {A} forms before (token ∷ rest) = BeginsWithin forms 0 before × ((k : ℕ) (more : List T) (value : A) → SpellsWithin forms k (before ++ token ∷ more) value → ⊥)

-- The first of `rest` is the first token that opens a level past the limit.
abbrev pub IsTooDeep : {T A : Type 0} → (ℕ → Form T A) → List T → List T → Type 0
IsTooDeep forms before [] = ⊥
IsTooDeep {T} {A} forms before (token ∷ rest) = BeginsWithin forms 1 (before ++ token ∷ []) × ((more : List T) (value : A) → SpellsWithin forms (length more) (before ++ token ∷ more) value → ⊥)

-- the tokens are refused at the first of the second list, by this fault
abbrev pub IsRefusedWithin : {T A : Type 0} → (ℕ → Form T A) → Fault → List T → List T → Type 0
IsRefusedWithin forms Unexpected before rest = IsUnexpectedWithin forms before rest
IsRefusedWithin forms TooDeep before rest = IsTooDeep forms before rest
