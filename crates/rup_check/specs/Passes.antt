-- What a pass over clauses, and the start of a step's check, say.
use Rattle.std.specs.Prelude.{◌≡◌, ℕ, ◌<◌, Bool, true, false, List, All, Any, take}
use Rattle.clause_core.specs.declared.literal.Lit.{Lit}
use Rattle.clause_core.specs.Literals.{negate}
use Rattle.clause_core.specs.Propagation.{AllFalse, Settled}
use Rattle.clause_core.specs.Values.{holds, Includes, unset}
use Rattle.rup_check.specs.declared.passes.Pass.{Pass}
use Rattle.rup_check.specs.declared.passes.Pass.TheVariants.{Conflict, Changed, Still}

-- a clause is false; or fewer variables are unset; or nothing changed, and nothing is left to do
abbrev pub PassSays : List ℕ → List (List Lit) → List ℕ → Pass → Type 0
PassSays old cs new Conflict = Any (AllFalse (holds new)) cs
PassSays old cs new Changed = unset new < unset old
PassSays old cs new Still = (new ≡ old) × All (Settled (holds new)) cs

-- the same of the first i clauses, by whether something changed
abbrev pub PassSoFar : List ℕ → List (List Lit) → List ℕ → ℕ → Bool → Type 0
PassSoFar old cs new i false = (new ≡ old) × All (Settled (holds old)) (take i cs)
PassSoFar old cs new i true = unset new < unset old

-- true: each set that makes the clause false has a literal and its negation; false: the values are what such sets share
abbrev pub AssumeSays : List Lit → List ℕ → Bool → Type 0
AssumeSays c new true = (t : Lit → Bool) → AllFalse t c → (l : Lit) × (t l ≡ true) × (t (negate l) ≡ true)
AssumeSays c new false = AllFalse (holds new) c × ((t : Lit → Bool) → AllFalse t c → Includes new t)
