-- What earlier queries found about a system, which later ones need not ask again.
use Rattle.std.specs.Prelude.{◌≡◌, ℕ, ⊤, Bool, true, List, Option, Some, None, length, slice_index_or, All, IfSome}
use Rattle.clause_core.specs.declared.literal.Lit.{Lit}
use Rattle.clause_core.specs.Assignments.{assignment_of}
use Rattle.clause_core.specs.Systems.{TransitionSystem, FirstBits}
use Rattle.frame_core.specs.declared.parts.Lemma.{Lemma}
use Rattle.frame_core.specs.Facts.{IsStep, IsPart}
use Rattle.frame_solver.specs.declared.known_steps.KnownStep.{KnownStep}
use Rattle.frame_solver.specs.declared.first_states.Firsts.{Firsts}
use Rattle.frame_solver.specs.declared.first_states.Firsts.TheVariants as firsts
use Rattle.frame_solver.specs.declared.stepping.Stepping.{Stepping}
use Rattle.frame_solver.specs.declared.stepping.Stepping.TheVariants as stepping
use Rattle.frame_solver.specs.Firsts.{AllFirstsMeet, IsFirstOut}
use Rattle.frame_solver.specs.Stepping.{IsStepOut}

-- the values are of a step, which leads from an initial state where that is said of it
pub record IsKnownStep (sys : TransitionSystem) (s : KnownStep) : Type 0 where
  pub step : IsStep record { system = sys; values = s.values }
  pub first : s.first ≡ true → FirstBits sys (assignment_of s.values)

-- the step leads from a state of the frame below the level that meets the clause to one that does not
abbrev pub LeadsOut : TransitionSystem → List Lemma → ℕ → List Lit → KnownStep → Type 0
LeadsOut sys lemmas level clause s = IsStepOut sys lemmas level clause s.values

-- all initial states give the bit this value
abbrev pub IsFixed : TransitionSystem → ℕ → Bool → Type 0
IsFixed sys b v = (x : ℕ → Bool) → FirstBits sys x → x b ≡ v

-- where the table has a value for a bit, all initial states give the bit that value
abbrev pub AreFixed : TransitionSystem → List (Option Bool) → Type 0
AreFixed sys fixed = (b : ℕ) (v : Bool) → slice_index_or fixed b None ≡ Some v → IsFixed sys b v

-- the values of the state bits are those of an initial state
pub record IsFirstState (sys : TransitionSystem) (values : List Bool) : Type 0 where
  pub whole : length values ≡ sys.state_bits
  pub first : FirstBits sys (assignment_of values)

-- what is known of the system: values of bits in initial states, an initial state, and steps
pub record IsKnown (sys : TransitionSystem) (table : List (Option Bool)) (state : Option (List Bool)) (list : List KnownStep) : Type 0 where
  pub fixed : AreFixed sys table
  pub first : IfSome state (IsFirstState sys)
  pub steps : All (IsKnownStep sys) list

-- initial states meet this part of the clause; or one does not meet the clause
abbrev pub KnowsFirsts : TransitionSystem → List Lit → Firsts → Type 0
KnowsFirsts sys clause (firsts.Meet part) = AllFirstsMeet sys part × IsPart part clause
KnowsFirsts sys clause (firsts.First values) = IsFirstOut sys clause values
KnowsFirsts sys clause (firsts.Spent d b) = ⊥

-- initial states meet the part of a clause that was found, or the state that was found is an initial one
abbrev pub TellsFirsts : TransitionSystem → Firsts → Type 0
TellsFirsts sys (firsts.Meet part) = AllFirstsMeet sys part
TellsFirsts sys (firsts.First values) = IsFirstState sys values
TellsFirsts sys (firsts.Spent d b) = ⊤

-- the step that was found is one, and leads from an initial state where `first` is true
abbrev pub TellsStep : TransitionSystem → Bool → Stepping → Type 0
TellsStep sys first (stepping.Holds parents part) = ⊤
TellsStep sys first (stepping.Leaves values) = IsKnownStep sys record { values = values; first = first }
TellsStep sys first (stepping.Spent d b) = ⊤
