-- What is asked about items: of each, clauses that can be met where it faults, and only if it does somewhere, or
-- nothing where it never does.
use Rattle.std.specs.Prelude.{◌≡◌, ℕ, ◌<◌, Bool, List, All, Option, None, Some, IfSome, slice_get, slice_index_or}
use Rattle.clause_core.specs.declared.literal.Lit.{Lit}
use Rattle.clause_core.specs.Assignments.{ClauseTrue}
use Rattle.clause_core.specs.Literals.{Within}
use Rattle.bit_clauses.specs.declared.deciding.Decided.{Decided}

-- no assignment meets the clauses
abbrev pub CannotBeMet : List (List Lit) → Type 0
CannotBeMet cs = (a : ℕ → Bool) → All (ClauseTrue a) cs → ⊥

-- the clauses are over the question's own variables
abbrev pub IsQuestion : Option Decided → Type 0
IsQuestion q = IfSome q (λ d. All (Within d.vars) d.clauses)

-- the question about item number `item`, counted from 0
abbrev pub question_of : List (Option Decided) → ℕ → Option Decided
question_of questions item = slice_index_or questions item None

-- the clauses of no question can be met; or of none of the first n
abbrev pub AreNeverMet : List (Option Decided) → Type 0
AreNeverMet questions = (item : ℕ) (d : Decided) → slice_get questions item ≡ Some (Some d) → CannotBeMet d.clauses

abbrev pub AreNeverMetBelow : List (Option Decided) → ℕ → Type 0
AreNeverMetBelow questions n = (item : ℕ) (d : Decided) → item < n → slice_get questions item ≡ Some (Some d) → CannotBeMet d.clauses
