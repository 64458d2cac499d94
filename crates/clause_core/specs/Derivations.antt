-- Derivations by unit propagation (Goldberg, Novikov 2003; Van Gelder 2008).
use Rattle.std.specs.Prelude.{◌≡◌, ℕ, ◌<◌, List, [], ◌++◌, length, take, suc, slice_index_or}
use Rattle.clause_core.specs.declared.literal.Lit.{Lit}
use Rattle.clause_core.specs.Literals.{Within}
use Rattle.clause_core.specs.Propagation.{Follows}

-- step k has no literal past `vars`, and follows by unit propagation from the clauses and the steps before it
abbrev pub StepHolds : ℕ → List (List Lit) → List (List Lit) → ℕ → Type 0
StepHolds vars cs log k = Within vars (slice_index_or log k []) × Follows (cs ++ take k log) (slice_index_or log k [])

-- each of the first n steps holds
abbrev pub AllStepsBelow : ℕ → List (List Lit) → List (List Lit) → ℕ → Type 0
AllStepsBelow vars cs log n = (k : ℕ) → k < n → StepHolds vars cs log k

-- there is a last step, and it is the empty clause
abbrev pub EndsEmpty : List (List Lit) → Type 0
EndsEmpty log = (n : ℕ) × (length log ≡ suc n) × (slice_index_or log n [] ≡ [])

-- each step holds, and the last is the empty clause
abbrev pub Derives : ℕ → List (List Lit) → List (List Lit) → Type 0
Derives vars cs log = AllStepsBelow vars cs log (length log) × EndsEmpty log
