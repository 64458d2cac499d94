-- What conditions over the edges of a graph say of states whose bits are its inputs.
use Rattle.std.specs.Prelude.{ℕ, Bool, false, ◌&&◌, List, [], ◌∷◌, map}
use Rattle.bit_graph.specs.declared.edge.Edge.{Edge}
use Rattle.bit_graph.specs.declared.edge.GraphNode.{GraphNode}
use Rattle.bit_graph.specs.Meaning.{Denotes, HasInputs, Stands}
use Rattle.smv_tree.specs.declared.tree.Program.{Program}
use Rattle.smv_value.specs.declared.value.Value.{Value}
use Rattle.smv_resolve.specs.Items.{ResolvedItem}
use Rattle.smv_meaning.specs.Runs.{is_first_state, specifications_of}
use Rattle.bit_states.specs.Coding.{state_of}
use Rattle.bit_states.specs.Layouts.{state_width}
use Rattle.bit_conditions.specs.Asked.{is_broken_in, is_invariant}
use Rattle.bit_conditions.specs.Told.{Tells, TellsJust}
use Rattle.bit_system.specs.declared.sides.StateConditions.{StateConditions}

-- the edges of these inputs of a graph
abbrev pub input : ℕ → Edge
input n = record { node = n; negated = false }

abbrev pub edges_of : List ℕ → List Edge
edges_of bits = map input bits

-- two lists of one length, whose elements at each place are in this relation
unfoldable pub Each : {A B : Type 0} → (A → B → Type 0) → List A → List B → Type 0
Each R [] [] = Unit {0}
Each R [] (y ∷ ys) = ⊥
Each R (x ∷ xs) [] = ⊥
Each R (x ∷ xs) (y ∷ ys) = R x y × Each R xs ys

-- a bad state of the specification: one in which an invariant is FALSE; where none is claimed, there is no bad state
abbrev pub is_bad_in : Program → ResolvedItem → List Value → Bool
is_bad_in p spec s = is_invariant spec.kind && is_broken_in p spec s

-- the edge is true exactly where the state is bad
pub record TellsBad (g : List GraphNode) (p : Program) (state : (ℕ → Bool) → List Value) (spec : ResolvedItem) (e : Edge) : Type 0 where
  pub stands : Stands g e
  pub value : Denotes g e (λ v. is_bad_in p spec (state v))

-- what is asked of the state that a graph's inputs are, and an edge for each specification
pub record TellsStates (p : Program) (parts : StateConditions) : Type 0 where
  pub inputs : HasInputs (state_width p) parts.graph
  pub first : Tells parts.graph parts.first.items (λ v. is_first_state p (state_of p v))
  pub fair : TellsJust parts.graph p (state_of p) parts.fair.items
  pub bad : Each (TellsBad parts.graph p (state_of p)) (specifications_of p) parts.bad.items
