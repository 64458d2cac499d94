-- What the program's answers say.
use Rattle.std.specs.Prelude.{◌≡◌, ℕ, ◌-◌, Bool, List, All, codes}
use Rattle.clause_core.specs.declared.literal.Lit.{Lit}
use Rattle.clause_core.specs.Assignments.{ClauseTrue}
use Rattle.sat_core.specs.declared.answer.Answer.{Answer}
use Rattle.sat_core.specs.declared.answer.Answer.TheVariants.{Sat, Unsat, Spent}
use Rattle.sat_bench.specs.declared.solving.FormulaVerdict.{FormulaVerdict}
use Rattle.sat_bench.specs.declared.solving.FormulaVerdict.TheVariants.{Satisfiable, Unsatisfiable, Unknown}
use Rattle.sat_bench.specs.declared.solving.FormulaOutcome.{FormulaOutcome}

-- the verdict that a solver's answer gives
abbrev pub verdict_of : Answer → FormulaVerdict
verdict_of (Sat model) = Satisfiable
verdict_of (Unsat core) = Unsatisfiable
verdict_of (Spent drawn budget) = Unknown

-- the verdict is right: some assignment makes the clauses true; or none does; or each ticket of the budget was drawn,
-- the query's and those of so many conflicts
abbrev pub VerdictSays : List (List Lit) → ℕ → ℕ → FormulaVerdict → Type 0
VerdictSays cs budget conflicts Satisfiable = (a : ℕ → Bool) × All (ClauseTrue a) cs
VerdictSays cs budget conflicts Unsatisfiable = (a : ℕ → Bool) → All (ClauseTrue a) cs → ⊥
VerdictSays cs budget conflicts Unknown = conflicts ≡ budget - 1

-- the outcome's verdict is right
abbrev pub IsRight : List (List Lit) → ℕ → FormulaOutcome → Type 0
IsRight cs budget outcome = VerdictSays cs budget outcome.conflicts outcome.verdict

-- the line that tells a verdict
abbrev pub line_of : FormulaVerdict → List ℕ
line_of Satisfiable = codes "s SATISFIABLE"
line_of Unsatisfiable = codes "s UNSATISFIABLE"
line_of Unknown = codes "s UNKNOWN"
