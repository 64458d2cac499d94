-- What a query about steps finds.
use Rattle.std.specs.Prelude.{◌≡◌, ℕ, ◌+◌, ◌-◌, ◌<◌, not, Bool, true, false, List, ◌∷◌, map, take, length, slice_index_or, All, Contains}
use Rattle.clause_core.specs.declared.literal.Lit.{Lit}
use Rattle.clause_core.specs.Assignments.{ClauseTrue, assignment_of}
use Rattle.clause_core.specs.Systems.{TransitionSystem, FirstBits, StepBits}
use Rattle.sat_core.specs.declared.answer.Answer.{Answer}
use Rattle.sat_core.specs.declared.answer.Answer.TheVariants.{Sat, Unsat}
use Rattle.sat_core.specs.declared.answer.Answer.TheVariants as solver
use Rattle.frame_core.specs.declared.parts.Lemma.{Lemma}
use Rattle.frame_core.specs.declared.parts.Parent.{Parent}
use Rattle.frame_core.specs.Facts.{MeetsParents, IsPart}
use Rattle.frame_core.specs.FrameLaw.{lemma_at, InFrame, AllStand}
use Rattle.frame_solver.specs.declared.stepping.Stepping.{Stepping}
use Rattle.frame_solver.specs.declared.stepping.Stepping.TheVariants.{Holds, Leaves, Spent}
use Rattle.frame_solver.specs.Guards.{on}

-- the literal is false in the next state
abbrev pub left : ℕ → Lit → Lit
left state_bits l = record { var = state_bits + l.var; positive = not l.positive }

-- the query's own literals: its clause stands, and all of its literals are false in the next state
abbrev pub step_literals : ℕ → ℕ → List Lit → List Lit
step_literals state_bits own clause = on own ∷ map (left state_bits) clause

-- a step from a state of the frame below the level, that meets the parents and the clause, ends in the part
abbrev pub Ends : TransitionSystem → ℕ → List Lit → List Parent → List Lit → Type 0
Ends sys level clause parents part =
    (x y : ℕ → Bool) → (level ≡ 1 → FirstBits sys x) → (1 < level → ClauseTrue x clause × MeetsParents parents x) → StepBits sys x y → ClauseTrue y part

-- values of a step from a state of the frame below the level that meets the clause; the next state does not
pub record IsStepOut (sys : TransitionSystem) (lemmas : List Lemma) (level : ℕ) (clause : List Lit) (values : List Bool) : Type 0 where
  pub whole : length values ≡ sys.all_bits
  pub step : All (ClauseTrue (assignment_of values)) sys.step
  pub from : InFrame sys lemmas (level - 1) (assignment_of values)
  pub meets : ClauseTrue (assignment_of values) clause
  pub out : All (λ (l : Lit). assignment_of values (sys.state_bits + l.var) ≡ not l.positive) clause

-- what is found is right
abbrev pub Finds : TransitionSystem → List Lemma → ℕ → List Lit → ℕ → Bool → Stepping → Type 0
Finds sys lemmas level clause budget over (Holds parents part) =
    Ends sys level clause parents.items part.items × AllStand lemmas (level - 1) parents.items × IsPart part.items clause
Finds sys lemmas level clause budget over (Leaves values) = IsStepOut sys lemmas level clause values
Finds sys lemmas level clause budget over (Spent d b) = (d ≡ budget) × (b ≡ budget) × (over ≡ true)

-- the parents are the lemmas that the core names, where the activation variable of lemma n is first + n
pub record AreParents (first : ℕ) (lemmas : List Lemma) (core : List Lit) (parents : List Parent) : Type 0 where
  pub enough : (n : ℕ) → n < length lemmas → Contains core (on (first + n)) → (p : Parent) × Contains parents p × (p.clause ≡ (lemma_at lemmas n).clause)
  pub only : All (λ (p : Parent). (p.number < length lemmas) × ((lemma_at lemmas p.number).clause ≡ p.clause) × Contains core (on (first + p.number))) parents

-- the part has each literal of the clause whose counterpart by f is in the core
pub record IsCut (f : Lit → Lit) (core clause part : List Lit) : Type 0 where
  pub enough : (l : Lit) → Contains clause l → Contains core (f l) → Contains part l
  pub only : IsPart part clause

-- each of these literals whose variable is in the range of the marks, which begins at `from`, has its mark
abbrev pub AreMarked : ℕ → List Lit → List Bool → Type 0
AreMarked from literals marks = (l : Lit) → Contains literals l → (v : ℕ) → v < length marks → l.var ≡ from + v → slice_index_or marks v false ≡ true

-- what a solver's answer says of steps
abbrev pub Reads : TransitionSystem → ℕ → List Lemma → List Lit → Answer → Stepping → Type 0
Reads sys first lemmas clause (Sat model) found = found ≡ Leaves (take sys.all_bits model)
Reads sys first lemmas clause (Unsat core) (Holds parents part) =
    AreParents first lemmas core.items parents.items × IsCut (left sys.state_bits) core.items clause part.items
Reads sys first lemmas clause (Unsat core) (Leaves values) = ⊥
Reads sys first lemmas clause (Unsat core) (Spent d budget) = ⊥
Reads sys first lemmas clause (solver.Spent d budget) found = found ≡ Spent d budget
