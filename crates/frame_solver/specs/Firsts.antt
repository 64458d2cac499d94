-- What a query about initial states finds.
use Rattle.std.specs.Prelude.{◌≡◌, ℕ, zero, suc, not, Bool, true, List, [], ◌∷◌, ◌++◌, take, length, All}
use Rattle.clause_core.specs.declared.literal.Lit.{Lit}
use Rattle.clause_core.specs.Literals.{negate}
use Rattle.clause_core.specs.Assignments.{ClauseTrue, assignment_of}
use Rattle.clause_core.specs.Systems.{TransitionSystem, FirstBits}
use Rattle.sat_core.specs.declared.answer.Answer.{Answer}
use Rattle.sat_core.specs.declared.answer.Answer.TheVariants.{Sat, Unsat}
use Rattle.sat_core.specs.declared.answer.Answer.TheVariants as solver
use Rattle.frame_core.specs.Facts.{IsPart}
use Rattle.frame_solver.specs.declared.first_states.Firsts.{Firsts}
use Rattle.frame_solver.specs.declared.first_states.Firsts.TheVariants.{Meet, First, Spent}
use Rattle.frame_solver.specs.Stepping.{IsCut}

-- initial states meet the clause
abbrev pub AllFirstsMeet : TransitionSystem → List Lit → Type 0
AllFirstsMeet sys clause = (x : ℕ → Bool) → FirstBits sys x → ClauseTrue x clause

-- the state's values: it is an initial state, and makes each literal of the clause false
pub record IsFirstOut (sys : TransitionSystem) (clause : List Lit) (values : List Bool) : Type 0 where
  pub whole : length values ≡ sys.state_bits
  pub first : FirstBits sys (assignment_of values)
  pub out : All (λ (l : Lit). assignment_of values l.var ≡ not l.positive) clause

-- initial states meet this part of the clause; or one does not meet the clause; or the purse was spent
abbrev pub FindsFirsts : TransitionSystem → List Lit → ℕ → Bool → Firsts → Type 0
FindsFirsts sys clause budget over (Meet part) = AllFirstsMeet sys part × IsPart part clause
FindsFirsts sys clause budget over (First values) = IsFirstOut sys clause values
FindsFirsts sys clause budget over (Spent d b) = (d ≡ budget) × (b ≡ budget) × (over ≡ true)

-- what a solver's answer says of initial states
abbrev pub ReadsFirsts : TransitionSystem → List Lit → Answer → Firsts → Type 0
ReadsFirsts sys clause (Sat model) found = found ≡ First (take sys.state_bits model)
ReadsFirsts sys clause (Unsat core) (Meet part) = IsCut negate core.items clause part
ReadsFirsts sys clause (Unsat core) (First values) = ⊥
ReadsFirsts sys clause (Unsat core) (Spent d b) = ⊥
ReadsFirsts sys clause (solver.Spent d b) found = found ≡ Spent d b

-- the clause that says that a state is another than that of these values
abbrev pub negation_of : List Bool → ℕ → List Lit
negation_of values zero = []
negation_of values (suc b) = negation_of values b ++ record { var = b; positive = not (assignment_of values b) } ∷ []
