-- What conditions over the edges of a graph say of states with inputs.
use Rattle.std.specs.Prelude.{◌≡◌, ℕ, ◌&&◌, ◌++◌, Bool, true, List, [], length, map}
use Rattle.std.specs.List.{list_all}
use Rattle.bit_graph.specs.declared.edge.Edge.{Edge}
use Rattle.bit_graph.specs.declared.edge.GraphNode.{GraphNode}
use Rattle.bit_graph.specs.Meaning.{Consistent, HasInputs, edge_value}
use Rattle.smv_tree.specs.declared.tree.Program.{Program}
use Rattle.smv_resolve.specs.Resolved.{Resolved}
use Rattle.smv_value.specs.declared.value.Value.{Value}
use Rattle.smv_slots.specs.Slots.{slots_of}
use Rattle.smv_meaning.specs.declared.outcome.Evaluation.{Evaluation}
use Rattle.smv_meaning.specs.Runs.{are_inputs, is_given, is_state, is_true}
use Rattle.smv_meaning.specs.Tables.{outcome_at}
use Rattle.smv_meaning.specs.Values.{outcome}
use Rattle.bit_arith.specs.Number.{AllStand, values_of}
use Rattle.bit_outcomes.specs.declared.told.Told.{Told}
use Rattle.bit_outcomes.specs.Telling.{TellsAll}
use Rattle.bit_conditions.specs.declared.told.ToldInputs.{ToldInputs}
use Rattle.bit_conditions.specs.Asked.{justices_of}
use Rattle.bit_conditions.specs.Told.{Tells}
use Rattle.bit_formula.specs.declared.states.JointConditions.{JointConditions}
use Rattle.bit_formula.specs.Coding.{joint_width}
use Rattle.bit_formula.specs.Standing.{atom_values, is_first_at, joint_just_values}

-- these expressions have values or faults in each state with inputs
abbrev pub AreGiven : Program → List Resolved → Type 0
AreGiven p parts =
    (s u : List Value) → is_state p s ≡ true → are_inputs p u ≡ true → list_all (λ (e : Resolved). is_given (outcome (slots_of p) s u [] e)) parts ≡ true

-- the edges of inputs have the values of these bits
pub record TellsRead (g : List GraphNode) (p : Program) (inputs : ToldInputs) (bits : (ℕ → Bool) → List Bool) : Type 0 where
  pub read : (v : ℕ → Bool) → Consistent v g → values_of v inputs.bits ≡ bits v

-- An edge for each of these nodes, that is true where the node is TRUE and `valid` is. What is told there is so, and is
-- a value or a fault.
pub record TellsAtoms (g : List GraphNode) (told : List Told) (valid : Edge) (atoms : List ℕ) (edges : List Edge) : Type 0 where
  pub tells : (v : ℕ → Bool) (os : List Evaluation) → Consistent v g
      → (edge_value v valid ≡ true → TellsAll v told os × (list_all (λ (a : ℕ). is_given (outcome_at os a)) atoms ≡ true))
      → map (edge_value v) edges ≡ map (λ (a : ℕ). edge_value v valid && is_true (outcome_at os a)) atoms

-- what is defined of the bits of a state: the formulas of JUSTICE, and then the parts
abbrev pub defined_values : Program → List ℕ → List Resolved → List ((ℕ → Bool) → Bool)
defined_values p reads parts = joint_just_values p reads ++ atom_values p reads parts

-- their values
abbrev pub truths_in : (ℕ → Bool) → List ((ℕ → Bool) → Bool) → List Bool
truths_in x fs = map (λ (f : (ℕ → Bool) → Bool). f x) fs

-- what is asked of the state with inputs that a graph's inputs are, and what is defined there
pub record TellsJoint (p : Program) (reads : List ℕ) (parts : List Resolved) (c : JointConditions) : Type 0 where
  pub inputs : HasInputs (joint_width p reads) c.graph
  pub first : Tells c.graph c.first.items (is_first_at p reads)
  pub stand : AllStand c.graph c.defined.items
  pub told : (v : ℕ → Bool) → Consistent v c.graph → map (edge_value v) c.defined.items ≡ truths_in v (defined_values p reads parts)
  pub justices : c.justices ≡ length (justices_of p)
