-- The variables of a graph's nodes.
use Rattle.std.specs.Prelude.{◌≡◌, ℕ, ◌<◌, ◌⊎◌, Bool, true, false, ◌||◌, cond, List, length, slice_index_or, zero, suc}
use Rattle.bit_graph.specs.declared.edge.Edge.{Edge}
use Rattle.bit_graph.specs.declared.edge.GraphNode.{GraphNode}
use Rattle.bit_graph.specs.declared.edge.GraphNode.TheVariants.{False, Input, And, Xor, Choice}
use Rattle.bit_graph.specs.Meaning.{HasInputs}
use Rattle.cnf_build.specs.Cone.{Reached}

-- node k has a variable: it is an input, or the roots reach it
abbrev pub HasVariable : List GraphNode → List Edge → ℕ → Type 0
HasVariable g roots k = (k < length g) × ((slice_index_or g k Input ≡ Input) ⊎ Reached g roots k)

-- just the inputs and the nodes that the roots reach have variables, one each and in their order: those below `vars`;
-- inputs that are the first nodes are the first variables
pub record Numbering (g : List GraphNode) (roots : List Edge) (vars : ℕ) : Type 0 where
  pub variable : ℕ → ℕ
  pub node : ℕ → ℕ
  pub of_node : (k : ℕ) → HasVariable g roots k → (variable k < vars) × (node (variable k) ≡ k)
  pub of_variable : (i : ℕ) → i < vars → HasVariable g roots (node i) × (variable (node i) ≡ i)
  pub in_order : (j k : ℕ) → HasVariable g roots j → HasVariable g roots k → j < k → variable j < variable k
  pub inputs : (n : ℕ) → HasInputs n g → (k : ℕ) → k < n → variable k ≡ k

abbrev pub is_input : GraphNode → Bool
is_input False = false
is_input Input = true
is_input (And a b) = false
is_input (Xor a b) = false
is_input (Choice c a b) = false

-- node k is live or an input
abbrev pub is_named : (ℕ → Bool) → List GraphNode → ℕ → Bool
is_named live g k = live k || is_input (slice_index_or g k Input)

-- how many numbers below k pass
abbrev pub count_below : (ℕ → Bool) → ℕ → ℕ
count_below test zero = 0
count_below test (suc k) = cond (test k) (suc (count_below test k)) (count_below test k)

-- the number that the list has for node k
abbrev pub name_in : List ℕ → ℕ → ℕ
name_in names k = slice_index_or names k 0

-- the first nodes, so many as there are names, are numbered by how many before them have a variable
abbrev pub AreNumbers : (ℕ → Bool) → List ℕ → Type 0
AreNumbers test names = (k : ℕ) → k < length names → name_in names k ≡ count_below test k
