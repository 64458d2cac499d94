-- What the systems of a program are made of: what they share, and the clauses of each specification.
use Rattle.std.specs.Prelude.{◌≡◌, ℕ, ◌*◌, ◌≤◌, Bool, not, List, All}
use Rattle.clause_core.specs.Literals.{Within}
use Rattle.clause_core.specs.Systems.{Gives, Opposed, TransitionSystem}
use Rattle.smv_tree.specs.declared.tree.Program.{Program}
use Rattle.smv_resolve.specs.Items.{ResolvedItem}
use Rattle.smv_meaning.specs.Runs.{is_first_state, is_step}
use Rattle.bit_graph.specs.declared.edge.Edge.{Edge}
use Rattle.bit_graph.specs.declared.edge.GraphNode.{GraphNode}
use Rattle.bit_graph.specs.Values.{value_under}
use Rattle.bit_clauses.specs.declared.deciding.Decided.{Decided}
use Rattle.bit_clauses.specs.Deciding.{Decides}
use Rattle.bit_clauses.specs.Gated.{DefinesAll}
use Rattle.bit_states.specs.Coding.{inputs_of, next_of, state_of}
use Rattle.bit_states.specs.Layouts.{HasTypes, named_width, state_width}
use Rattle.bit_system.specs.declared.sides.Claim.{Claim}
use Rattle.bit_system.specs.declared.sides.StateSide.{StateSide}
use Rattle.bit_system.specs.declared.systems.Shared.{Shared}
use Rattle.bit_system.specs.Conditions.{is_bad_in}
use Rattle.bit_system.specs.Standing.{just_values}

-- the clauses of initial states and of the formulas of JUSTICE
pub record IsStateSide (p : Program) (r : StateSide) : Type 0 where
  pub init : Decides (state_width p) r.init (λ x. is_first_state p (state_of p x))
  pub defs : Gives (state_width p) r.fair r.defs
  pub fair : DefinesAll (state_width p) r.defs r.fair (just_values p)
  pub init_within : All (Within r.vars) r.init
  pub defs_within : All (Within r.vars) r.defs
  pub fair_within : Within r.vars r.fair

-- the clauses of steps
pub record IsStepSide (p : Program) (r : Decided) : Type 0 where
  pub step : Decides (named_width p) r.clauses (λ x. is_step p (state_of p x) (inputs_of p x) (next_of p x))
  pub room : named_width p ≤ r.vars
  pub within : All (Within r.vars) r.clauses

-- the clauses decide a question of the first bits, and its opposite
pub record DecidesBoth (width : ℕ) (question : (ℕ → Bool) → Bool) (r : Claim) : Type 0 where
  pub bad : Decides width r.bad question
  pub good : Decides width r.good (λ x. not (question x))
  pub bad_within : All (Within r.vars) r.bad
  pub good_within : All (Within r.vars) r.good

-- whether an edge is true
abbrev pub DecidesEdge : ℕ → List GraphNode → Edge → Claim → Type 0
DecidesEdge width g e r = DecidesBoth width (λ x. value_under x g e) r

-- the clauses of a specification
abbrev pub IsClaim : Program → ResolvedItem → Claim → Type 0
IsClaim p spec r = DecidesBoth (state_width p) (λ x. is_bad_in p spec (state_of p x)) r

-- what all systems share
pub record IsShared (p : Program) (shared : Shared) : Type 0 where
  pub types : HasTypes p
  pub width : shared.width ≡ state_width p
  pub steps : IsStepSide p shared.steps
  pub states : IsStateSide p shared.states
  pub above : shared.steps.vars ≤ shared.states.vars

-- so many variables are enough for what is shared, and for a specification
pub record HasRoom (vars : ℕ) (shared : Shared) : Type 0 where
  pub room : 2 * shared.width ≤ vars
  pub init_in : All (Within vars) shared.states.init
  pub step_in : All (Within vars) shared.steps.clauses
  pub fair_in : Within vars shared.states.fair
  pub defs_in : All (Within vars) shared.states.defs
  pub gives : Gives shared.width shared.states.fair shared.states.defs

pub record CanBeClaimed (vars width : ℕ) (c : Claim) : Type 0 where
  pub bad_in : All (Within vars) c.bad
  pub good_in : All (Within vars) c.good
  pub opposed : Opposed width c.good c.bad

-- the system of a specification, with so many variables
abbrev pub system_by : Shared → ℕ → Claim → TransitionSystem
system_by shared vars c = record {
  state_bits = shared.width;
  all_bits = vars;
  init = shared.states.init;
  step = shared.steps.clauses;
  bad = c.bad;
  good = c.good;
  fair = shared.states.fair;
  defs = shared.states.defs;
}
