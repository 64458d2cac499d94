-- The clauses of a system of an LTLSPEC.
use Rattle.std.specs.Prelude.{◌≡◌, ℕ, ◌+◌, ◌≤◌, ◌++◌, List, [], ◌∷◌, All}
use Rattle.clause_core.specs.Literals.{Within}
use Rattle.clause_core.specs.Systems.{Gives, TransitionSystem}
use Rattle.smv_tree.specs.declared.tree.Program.{Program}
use Rattle.smv_resolve.specs.Resolved.{Resolved}
use Rattle.bit_clauses.specs.declared.deciding.Decided.{Decided}
use Rattle.bit_clauses.specs.Deciding.{Decides}
use Rattle.bit_clauses.specs.Gated.{DefinesAll}
use Rattle.bit_formula.specs.declared.joining.JointSystem.{JointSystem}
use Rattle.bit_formula.specs.declared.sides.JointSide.{JointSide}
use Rattle.bit_formula.specs.Coding.{joint_named, joint_width}
use Rattle.bit_formula.specs.Standing.{atom_values, is_first_at, is_step_at, joint_just_values}

-- the clauses of initial states, and of what is defined of a state with inputs
pub record IsJointSide (p : Program) (reads : List ℕ) (parts : List Resolved) (r : JointSide) : Type 0 where
  pub init : Decides (joint_width p reads) r.init (is_first_at p reads)
  pub defs : Gives (joint_width p reads) (r.fair ++ r.atoms.items) r.defs
  pub fair : DefinesAll (joint_width p reads) r.defs r.fair (joint_just_values p reads)
  pub atoms : DefinesAll (joint_width p reads) r.defs r.atoms.items (atom_values p reads parts)
  pub init_within : All (Within r.vars) r.init
  pub defs_within : All (Within r.vars) r.defs
  pub fair_within : Within r.vars r.fair
  pub atoms_within : Within r.vars r.atoms.items

-- the clauses of steps
pub record IsJointStep (p : Program) (reads : List ℕ) (r : Decided) : Type 0 where
  pub step : Decides (joint_named p reads) r.clauses (is_step_at p reads)
  pub room : joint_named p reads ≤ r.vars
  pub within : All (Within r.vars) r.clauses

-- both have room among the variables of the second
pub record CanBeJoined (width : ℕ) (steps : Decided) (side : JointSide) : Type 0 where
  pub room : width + width ≤ steps.vars
  pub above : steps.vars ≤ side.vars
  pub step_within : All (Within steps.vars) steps.clauses
  pub init_within : All (Within side.vars) side.init
  pub defs_within : All (Within side.vars) side.defs
  pub fair_within : Within side.vars side.fair
  pub gives : Gives width (side.fair ++ side.atoms.items) side.defs

-- the system of both, in which no state is bad
abbrev pub joined_system : ℕ → Decided → JointSide → TransitionSystem
joined_system width steps side = record {
  state_bits = width;
  all_bits = side.vars;
  init = side.init;
  step = steps.clauses;
  bad = [] ∷ [];
  good = [];
  fair = side.fair;
  defs = side.defs;
}

-- the system of a program and of parts, and the literals of these
pub record IsJointSystem (p : Program) (reads : List ℕ) (parts : List Resolved) (r : JointSystem) : Type 0 where
  pub bits : r.system.state_bits ≡ joint_width p reads
  pub room : joint_named p reads ≤ r.system.all_bits
  pub first : Decides (joint_width p reads) r.system.init (is_first_at p reads)
  pub step : Decides (joint_named p reads) r.system.step (is_step_at p reads)
  pub defs : Gives (joint_width p reads) (r.system.fair ++ r.atoms.items) r.system.defs
  pub fair : DefinesAll (joint_width p reads) r.system.defs r.system.fair (joint_just_values p reads)
  pub within : Within r.system.all_bits r.atoms.items
  pub atoms : DefinesAll (joint_width p reads) r.system.defs r.atoms.items (atom_values p reads parts)
