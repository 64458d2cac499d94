-- Partial assignments: one number for each variable, 0 for unset, 1 for true, 2 for false.
use Rattle.std.specs.Prelude.{◌≡◌, ℕ, Bool, true, false, List, cond, eqb, slice_index, sum_by}
use Rattle.clause_core.specs.declared.literal.Lit.{Lit}
use Rattle.clause_core.specs.Propagation.{Closed}

-- the number for this value
abbrev pub code : Bool → ℕ
code true = 1
code false = 2

-- whether the literal is set true
abbrev pub holds : List ℕ → Lit → Bool
holds values l = eqb (slice_index values l.var) (code l.positive)

-- each literal that is set true is in the set t
abbrev pub Includes : List ℕ → (Lit → Bool) → Type 0
Includes values t = (l : Lit) → holds values l ≡ true → t l ≡ true

-- no literal that was set true is set otherwise
abbrev pub Grows : List ℕ → List ℕ → Type 0
Grows old new = (l : Lit) → holds old l ≡ true → holds new l ≡ true

-- what is new was set by unit propagation: each closed set that includes the old values includes the new
abbrev pub Consequent : List ℕ → List (List Lit) → List ℕ → Type 0
Consequent old cs new = (t : Lit → Bool) → Includes old t → Closed t cs → Includes new t

-- 1 for a variable that is unset
abbrev pub unset_one : ℕ → ℕ
unset_one x = cond (eqb x 1) 0 (cond (eqb x 2) 0 1)

-- how many variables are unset
abbrev pub unset : List ℕ → ℕ
unset values = sum_by unset_one values
