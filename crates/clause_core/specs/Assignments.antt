-- Assignments: a value for each variable, and what they make true.
use Rattle.std.specs.Prelude.{◌≡◌, ℕ, ◌<◌, Bool, false, List, All, Any, slice_index_or}
use Rattle.clause_core.specs.declared.literal.Lit.{Lit}

-- an assignment makes a clause true if it makes one of its literals true
abbrev pub ClauseTrue : (ℕ → Bool) → List Lit → Type 0
ClauseTrue a c = Any (λ l. a l.var ≡ l.positive) c

-- each assignment that makes the clauses true makes the clause true
abbrev pub Implies : List (List Lit) → List Lit → Type 0
Implies cs c = (a : ℕ → Bool) → All (ClauseTrue a) cs → ClauseTrue a c

-- the assignment with these values, false past the list's end
abbrev pub assignment_of : List Bool → ℕ → Bool
assignment_of values v = slice_index_or values v false

-- both give the variables below `vars` the same values
abbrev pub Agrees : ℕ → (ℕ → Bool) → (ℕ → Bool) → Type 0
Agrees vars a b = (v : ℕ) → v < vars → a v ≡ b v
