-- Steps that follow by hints (Cruz-Filipe and others 2017: linear RUP).
--
-- A step's literals are set false first. It follows by its hints if each hinted clause in turn has all
-- literals false but one that is unset, which is then set true. The last one has all literals false.
-- The literals that are set true are a list. A step that has a literal and its negation can't have both
-- set false, so it follows by no hints.
use Rattle.std.specs.Prelude.{◌≡◌, ℕ, ◌<◌, ◌⊎◌, List, [], ◌∷◌, ◌++◌, length, take, map, All, Contains, slice_index_or}
use Rattle.clause_core.specs.declared.literal.Lit.{Lit}
use Rattle.clause_core.specs.Literals.{negate, Within}
use Rattle.clause_core.specs.Derivations.{EndsEmpty}

-- steps, and at the same place of another list the hints of each
pub record HintedLog : Type 0 where
  pub steps : List (List Lit)
  pub hints : List (List ℕ)

-- each literal of the clause is false, where those of `set` are set true
abbrev pub FalseIn : List Lit → List Lit → Type 0
FalseIn set c = All (λ m. Contains set (negate m)) c

-- each literal of the clause is false but this one, which is unset
pub record UnitOn (set c : List Lit) (l : Lit) : Type 0 where
  pub in_clause : Contains c l
  pub not_true : Contains set l → ⊥
  pub not_false : Contains set (negate l) → ⊥
  pub others : All (λ m. (m ≡ l → ⊥) → Contains set (negate m)) c

-- the hinted clauses, in turn, each set one literal, and the last is false
abbrev pub Chained : List (List Lit) → List Lit → List ℕ → Type 0
Chained cs set [] = ⊥
Chained cs set (h ∷ hs) =
    (h < length cs)
    × (((hs ≡ []) × FalseIn set (slice_index_or cs h []))
    ⊎ ((l : Lit) × UnitOn set (slice_index_or cs h []) l × Chained cs (l ∷ set) hs))

-- the literals of the clause can be set false: none stands there with its negation
abbrev pub IsOpen : List Lit → Type 0
IsOpen c = All (λ m. Contains c (negate m) → ⊥) c

-- the step follows from the clauses by its hints
abbrev pub FollowsBy : List (List Lit) → List Lit → List ℕ → Type 0
FollowsBy cs c hints = IsOpen c × Chained cs (map negate c) hints

-- step k has no literal past `vars`, and follows by its hints from the clauses and the steps before it
abbrev pub StepHinted : ℕ → List (List Lit) → HintedLog → ℕ → Type 0
StepHinted vars cs log k =
    Within vars (slice_index_or log.steps k [])
    × FollowsBy (cs ++ take k log.steps) (slice_index_or log.steps k []) (slice_index_or log.hints k [])

-- each of the first n steps follows by its hints
abbrev pub AllHintedBelow : ℕ → List (List Lit) → HintedLog → ℕ → Type 0
AllHintedBelow vars cs log n = (k : ℕ) → k < n → StepHinted vars cs log k

-- each step follows by its hints
abbrev pub IsHinted : ℕ → List (List Lit) → HintedLog → Type 0
IsHinted vars cs log = AllHintedBelow vars cs log (length log.steps)

-- each step follows by its hints, and the last is the empty clause
abbrev pub Refutes : ℕ → List (List Lit) → HintedLog → Type 0
Refutes vars cs log = IsHinted vars cs log × EndsEmpty log.steps
