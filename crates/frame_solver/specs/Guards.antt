-- Groups of clauses in one solver, each behind an activation literal (Een, Sorensson 2003).
--
-- Group k of a list of groups has the activation variable b + k. Where that is true the clauses of the group have to be
-- true, and where it is false they are free. From some variable on, `used`, single queries were served.
use Rattle.std.specs.Prelude.{◌≡◌, ℕ, ◌+◌, ◌<◌, ◌≤◌, ◌⊎◌, Bool, true, false, List, [], ◌∷◌, map, length, slice_index_or, All, Contains}
use Rattle.clause_core.specs.declared.literal.Lit.{Lit}
use Rattle.clause_core.specs.Assignments.{ClauseTrue}

-- v is true; v is false
abbrev pub on : ℕ → Lit
on v = record { var = v; positive = true }

abbrev pub off : ℕ → Lit
off v = record { var = v; positive = false }

-- group number k
abbrev pub group : List (List (List Lit)) → ℕ → List (List Lit)
group gs k = slice_index_or gs k []

-- clauses behind one activation variable
abbrev pub behind : ℕ → List (List Lit) → List (List Lit)
behind v cs = map (λ d. off v ∷ d) cs

-- the clause stands behind the activation variable of its group; or behind one of a query
abbrev pub IsGuarded : ℕ → List (List (List Lit)) → ℕ → List Lit → Type 0
IsGuarded b gs used c =
    ((k : ℕ) × (d : List Lit) × (k < length gs) × Contains (group gs k) d × (c ≡ off (b + k) ∷ d))
    ⊎ ((v : ℕ) × (used ≤ v) × Contains c (off v))

-- all clauses of each group stand behind its activation variable among the given ones
abbrev pub AllLoaded : ℕ → List (List (List Lit)) → List (List Lit) → Type 0
AllLoaded b gs given = (k : ℕ) → k < length gs → All (λ d. Contains given (off (b + k) ∷ d)) (group gs k)

-- the given clauses are those of the groups, behind their activation variables, and those of queries
pub record HoldsGroups (b : ℕ) (gs : List (List (List Lit))) (used : ℕ) (given : List (List Lit)) : Type 0 where
  pub guarded : All (IsGuarded b gs used) given
  pub loaded : AllLoaded b gs given

-- a makes the clauses of each group true whose activation variable it makes true
abbrev pub Obeys : ℕ → List (List (List Lit)) → (ℕ → Bool) → Type 0
Obeys b gs a = (k : ℕ) → k < length gs → a (b + k) ≡ true → All (ClauseTrue a) (group gs k)

-- a makes the activation variables of queries false
abbrev pub AllOff : ℕ → (ℕ → Bool) → Type 0
AllOff used a = (v : ℕ) → used ≤ v → a v ≡ false
