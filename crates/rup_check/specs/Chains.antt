-- What the check of a hinted step says and leaves behind.
use Rattle.std.specs.Prelude.{◌≡◌, ℕ, ◌<◌, ◌⊎◌, Bool, true, false, List, [], ◌∷◌, ◌++◌, length, take, map, All, Contains, slice_index, slice_index_or, slice_set}
use Rattle.clause_core.specs.declared.literal.Lit.{Lit}
use Rattle.clause_core.specs.Literals.{negate}
use Rattle.clause_core.specs.Propagation.{AllFalse, UnitIn}
use Rattle.clause_core.specs.Derivations.{EndsEmpty}
use Rattle.clause_core.specs.Values.{holds, code}
use Rattle.hinted_log.specs.Hints.{HintedLog, IsOpen, StepHinted, AllHintedBelow, Refutes}
use Rattle.rup_check.specs.declared.checking.LogVerdict.{LogVerdict}
use Rattle.rup_check.specs.declared.checking.LogVerdict.TheVariants.{Yes, No}

-- a clause of one literal for each of these
abbrev pub units_of : List Lit → List (List Lit)
units_of lits = map (λ l. l ∷ []) lits

-- the clauses that a step is judged by: the given ones, the units, and the steps before it
abbrev pub before : List (List Lit) → List Lit → List (List Lit) → ℕ → List (List Lit)
before cs units steps count = cs ++ units_of units ++ take count steps

-- nothing is set
abbrev pub IsClear : List ℕ → Type 0
IsClear v = (k : ℕ) → slice_index v k ≡ 0

-- a literal of the clause has this variable
abbrev pub HasVar : List Lit → ℕ → Type 0
HasVar c k = (l : Lit) × Contains c l × (l.var ≡ k)

-- the literals that are set true are those of the list
pub record Matches (v : List ℕ) (set : List Lit) : Type 0 where
  pub listed : (l : Lit) → holds v l ≡ true → Contains set l
  pub held : (l : Lit) → Contains set l → holds v l ≡ true

-- a literal stands there with its negation
abbrev pub IsTaut : List Lit → Type 0
IsTaut c = (m : Lit) × Contains c m × Contains c (negate m)

-- true: the literals of the clause are set false; false: they can't be
abbrev pub AssumedFalse : List Lit → List ℕ → Bool → Type 0
AssumedFalse c v true = IsOpen c × Matches v (map negate c)
AssumedFalse c v false = IsTaut c

-- the clause has all literals false but this one, which is unset
pub record Forces (v : List ℕ) (c : List Lit) (l : Lit) : Type 0 where
  pub unit : UnitIn (holds v) c l
  pub not_true : holds v l ≡ false
  pub not_false : holds v (negate l) ≡ false

-- the hinted clauses, in turn, each set one literal, and the last is false
abbrev pub Walks : List (List Lit) → List ℕ → List ℕ → Type 0
Walks cs v [] = ⊥
Walks cs v (h ∷ hs) =
    (h < length cs)
    × (((hs ≡ []) × AllFalse (holds v) (slice_index_or cs h []))
    ⊎ ((l : Lit) × Forces v (slice_index_or cs h []) l × Walks cs (slice_set v l.var (code l.positive)) hs))

-- a variable of a hinted clause
abbrev pub IsHintedVar : List (List Lit) → List ℕ → ℕ → Type 0
IsHintedVar cs hints k = (h : ℕ) × Contains hints h × (h < length cs) × HasVar (slice_index_or cs h []) k

-- no variable but those of hinted clauses is set anew
abbrev pub Touched : List (List Lit) → List ℕ → List ℕ → List ℕ → Type 0
Touched cs old hints new = (k : ℕ) → (slice_index new k ≡ slice_index old k) ⊎ IsHintedVar cs hints k

-- the variables of the clause are unset, and what was unset still is
pub record Cleared (old : List ℕ) (c : List Lit) (new : List ℕ) : Type 0 where
  pub zeroed : All (λ l. slice_index new l.var ≡ 0) c
  pub kept : (k : ℕ) → slice_index old k ≡ 0 → slice_index new k ≡ 0

-- so for all hinted clauses
pub record ClearedAt (cs : List (List Lit)) (old hints new : List ℕ) : Type 0 where
  pub zeroed : All (λ h. h < length cs → All (λ l. slice_index new l.var ≡ 0) (slice_index_or cs h [])) hints
  pub kept : (k : ℕ) → slice_index old k ≡ 0 → slice_index new k ≡ 0

-- the first step that its hints don't show; at the log's length, the log does not end in the empty clause
abbrev pub HintsFailFirstAt : ℕ → List (List Lit) → HintedLog → ℕ → Type 0
HintsFailFirstAt vars cs log step =
    AllHintedBelow vars cs log step
    × (((step < length log.steps) × (StepHinted vars cs log step → ⊥)) ⊎ ((step ≡ length log.steps) × (EndsEmpty log.steps → ⊥)))

-- Yes: each step follows by its hints, and the last is empty; No: it fails first at that step
abbrev pub HintedVerdict : ℕ → List (List Lit) → HintedLog → LogVerdict → Type 0
HintedVerdict vars cs log Yes = Refutes vars cs log
HintedVerdict vars cs log (No step) = HintsFailFirstAt vars cs log step
