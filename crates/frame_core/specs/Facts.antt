-- What queries show of a system (Bradley 2011, sections 3 and 4).
use Rattle.std.specs.Prelude.{◌≡◌, ℕ, ◌<◌, Bool, true, false, List, length, All, Contains}
use Rattle.clause_core.specs.declared.literal.Lit.{Lit}
use Rattle.clause_core.specs.Literals.{Within}
use Rattle.clause_core.specs.Assignments.{ClauseTrue, assignment_of}
use Rattle.clause_core.specs.Systems.{TransitionSystem, FirstBits, StepBits, BadBits}
use Rattle.frame_core.specs.declared.parts.Parent.{Parent}

-- x meets the clause of each parent
abbrev pub MeetsParents : List Parent → (ℕ → Bool) → Type 0
MeetsParents parents x = All (λ (p : Parent). ClauseTrue x p.clause) parents

-- what a query was asked, a clause over state bits and a level; the part of the clause and the lemmas that it used
pub record ProvedClause : Type 0 where
  pub system : TransitionSystem
  pub clause : List Lit
  pub part : List Lit
  pub level : ℕ
  pub parents : List Parent

-- each literal of the first clause is in the second
abbrev pub IsPart : List Lit → List Lit → Type 0
IsPart c d = All (Contains d) c

-- initial states meet the clause, and a step from a state that meets the parents and the clause, at level 1 from an
-- initial state, ends in its part
pub record IsProved (p : ProvedClause) : Type 0 where
  pub above : 0 < p.level
  pub within : Within p.system.state_bits p.clause
  pub part_in : IsPart p.part p.clause
  pub first : (x : ℕ → Bool) → FirstBits p.system x → ClauseTrue x p.clause
  pub step : (x y : ℕ → Bool) → (p.level ≡ 1 → FirstBits p.system x) → (1 < p.level → ClauseTrue x p.clause × MeetsParents p.parents x) →
      StepBits p.system x y → ClauseTrue y p.part

-- a level without bad states, and the lemmas that show it
pub record ClearLevel : Type 0 where
  pub system : TransitionSystem
  pub level : ℕ
  pub parents : List Parent

-- no state that meets the parents is bad; at level 0 no initial state is
pub record IsClear (c : ClearLevel) : Type 0 where
  pub safe : (x : ℕ → Bool) → (c.level ≡ 0 → FirstBits c.system x) → (0 < c.level → MeetsParents c.parents x) → BadBits c.system x → ⊥

-- a step: values of all bits
pub record FoundStep : Type 0 where
  pub system : TransitionSystem
  pub values : List Bool

-- the values meet the step clauses
pub record IsStep (s : FoundStep) : Type 0 where
  pub whole : length s.values ≡ s.system.all_bits
  pub step : All (ClauseTrue (assignment_of s.values)) s.system.step

-- `first` says whether the state of these values is an initial one
pub record IsFirstFlag (sys : TransitionSystem) (values : List Bool) (first : Bool) : Type 0 where
  pub is_first : first ≡ true → FirstBits sys (assignment_of values)
  pub not_first : first ≡ false → FirstBits sys (assignment_of values) → ⊥

-- a state that leads to a bad one: values of all bits, whether they are of a step, and whether the state is an initial
-- one
pub record FoundState : Type 0 where
  pub system : TransitionSystem
  pub values : List Bool
  pub is_step : Bool
  pub first : Bool

-- the values are of a step, or of a bad state, and `first` says whether the state is an initial one
pub record IsFound (f : FoundState) : Type 0 where
  pub whole : length f.values ≡ f.system.all_bits
  pub step : f.is_step ≡ true → All (ClauseTrue (assignment_of f.values)) f.system.step
  pub bad : f.is_step ≡ false → All (ClauseTrue (assignment_of f.values)) f.system.bad
  pub flag : IsFirstFlag f.system f.values f.first
