-- A system over bits that stands for a program and the formula of an LTLSPEC.
use Rattle.std.specs.Prelude.{◌≡◌, ℕ, ◌≤◌, ◌&&◌, ◌++◌, Bool, List, [], length, map}
use Rattle.clause_core.specs.declared.literal.Lit.{Lit}
use Rattle.clause_core.specs.Literals.{Within}
use Rattle.clause_core.specs.Systems.{TransitionSystem, Gives}
use Rattle.ltl_meaning.specs.Temporal.{Temporal}
use Rattle.ltl_meaning.specs.Unfolded.{unfolded}
use Rattle.ltl_monitor.specs.States.{AtomsBelow}
use Rattle.smv_tree.specs.declared.tree.Program.{Program}
use Rattle.smv_resolve.specs.Items.{ResolvedItem}
use Rattle.smv_resolve.specs.Resolved.{Resolved}
use Rattle.smv_slots.specs.Slots.{slots_of}
use Rattle.smv_meaning.specs.Runs.{are_inputs, is_first_state, is_state, is_step, is_true}
use Rattle.smv_meaning.specs.Values.{outcome}
use Rattle.smv_formulas.specs.Says.{Says}
use Rattle.bit_clauses.specs.Deciding.{Decides}
use Rattle.bit_clauses.specs.Gated.{DefinesAll}
use Rattle.bit_states.specs.Layouts.{BitLayout, HasTypes}
use Rattle.bit_conditions.specs.Asked.{is_just_in, justices_of}
use Rattle.bit_formula.specs.Coding.{inputs_in, joint_layout, joint_named, joint_width, next_in, read_inputs, read_next, state_in}
use Rattle.bit_formula.specs.Reading.{reads_of}

-- What is built for an LTLSPEC: the inputs that its formula reads, where bits stand, and the system. Then the formula,
-- and a literal for each of its atoms.
pub record FormulaSystem : Type 0 where
  pub reads : List ℕ
  pub layout : BitLayout
  pub system : TransitionSystem
  pub formula : Temporal
  pub atoms : List Lit

-- the bits are those of a state and of the inputs that are read
abbrev pub is_coded : Program → List ℕ → (ℕ → Bool) → Bool
is_coded p reads x = is_state p (state_in p reads x) && are_inputs p (read_inputs p reads x)

-- there this is TRUE
abbrev pub is_true_at : Program → List ℕ → Resolved → (ℕ → Bool) → Bool
is_true_at p reads r x = is_coded p reads x && is_true (outcome (slots_of p) (state_in p reads x) (read_inputs p reads x) [] r)

-- they are those of an initial state, and of the inputs that are read
abbrev pub is_first_at : Program → List ℕ → (ℕ → Bool) → Bool
is_first_at p reads x = is_first_state p (state_in p reads x) && are_inputs p (read_inputs p reads x)

-- they are those of a step, and of the inputs that are read in the state to which it leads
abbrev pub is_step_at : Program → List ℕ → (ℕ → Bool) → Bool
is_step_at p reads x = is_step p (state_in p reads x) (inputs_in p reads x) (next_in p reads x) && are_inputs p (read_next p reads x)

abbrev pub atom_values : Program → List ℕ → List Resolved → List ((ℕ → Bool) → Bool)
atom_values p reads parts = map (is_true_at p reads) parts

-- that a formula of JUSTICE is TRUE, of each, by the bits of a state
abbrev pub joint_just_values : Program → List ℕ → List ((ℕ → Bool) → Bool)
joint_just_values p reads = map (λ (x : ResolvedItem). λ (b : ℕ → Bool). is_just_in p (state_in p reads b) x) (justices_of p)

-- The system of an LTLSPEC. The clauses of initial states and of steps say what the program says of the states that the
-- bits are. The inputs that are read are free in each state, but for their types, and are those of the step from it. No
-- state is bad. Its fair literals are those of JUSTICE, and the formula, over atoms whose literals these are, says what
-- the specification says.
pub record StandsForFormula (p : Program) (spec : ResolvedItem) (r : FormulaSystem) : Type 0 where
  pub types : HasTypes p
  -- the parts of the specification that the atoms stand for
  pub parts : List Resolved
  pub reads : r.reads ≡ reads_of p parts
  pub layout : r.layout ≡ joint_layout p r.reads
  pub bits : r.system.state_bits ≡ joint_width p r.reads
  pub room : joint_named p r.reads ≤ r.system.all_bits
  pub first : Decides (joint_width p r.reads) r.system.init (is_first_at p r.reads)
  pub step : Decides (joint_named p r.reads) r.system.step (is_step_at p r.reads)
  pub defs : Gives (joint_width p r.reads) (r.system.fair ++ r.atoms) r.system.defs
  pub fair : DefinesAll (joint_width p r.reads) r.system.defs r.system.fair (joint_just_values p r.reads)
  pub within : Within r.system.all_bits r.atoms
  pub atoms : DefinesAll (joint_width p r.reads) r.system.defs r.atoms (atom_values p r.reads parts)
  pub numbers : AtomsBelow (length r.atoms) (unfolded r.formula)
  pub says : Says p parts r.formula spec.value
