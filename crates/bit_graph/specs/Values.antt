-- The value of a node and of an edge under an assignment of the inputs.
use Rattle.std.specs.Prelude.{◌≡◌, ℕ, ◌<◌, Bool, false, ◌&&◌, cond, List, length, slice_index_or, zero, suc}
use Rattle.bit_graph.specs.declared.edge.Edge.{Edge}
use Rattle.bit_graph.specs.declared.edge.GraphNode.{GraphNode}
use Rattle.bit_graph.specs.declared.edge.GraphNode.TheVariants.{False, Input, And, Xor, Choice}
use Rattle.bit_graph.specs.Meaning.{edge_value, exclusive_or, Consistent, Stands}

-- the assignment with these values, false past the list's end
abbrev pub assigned : List Bool → ℕ → Bool
assigned values k = slice_index_or values k false

-- the value of node k, which is n, where a has the inputs' values and v those of the nodes before it
abbrev pub node_value : (ℕ → Bool) → (ℕ → Bool) → ℕ → GraphNode → Bool
node_value a v k False = false
node_value a v k Input = a k
node_value a v k (And x y) = edge_value v x && edge_value v y
node_value a v k (Xor x y) = exclusive_or (v x) (v y)
node_value a v k (Choice c x y) = cond (v c) (v x) (edge_value v y)

-- the value of node k, where no chain of operands from it is longer than the depth
unfoldable pub values_to : (ℕ → Bool) → List GraphNode → ℕ → ℕ → Bool
values_to a g zero k = false
values_to a g (suc depth) k = node_value a (values_to a g depth) k (slice_index_or g k Input)

-- the values of the nodes where the inputs have those of a
abbrev pub values : (ℕ → Bool) → List GraphNode → ℕ → Bool
values a g k = values_to a g (length g) k

-- the value of an edge where the inputs have those of a
abbrev pub value_under : (ℕ → Bool) → List GraphNode → Edge → Bool
value_under a g e = edge_value (values a g) e

-- v has at each input what a has
abbrev pub Agrees : (ℕ → Bool) → (ℕ → Bool) → List GraphNode → Type 0
Agrees a v g = (k : ℕ) → k < length g → slice_index_or g k Input ≡ Input → v k ≡ a k

-- the edge stands in g, and is b where the inputs have the values of a
unfoldable pub HasValue : (ℕ → Bool) → List GraphNode → Edge → Bool → Type 0
HasValue a g e b = Stands g e × (value_under a g e ≡ b)

-- each assignment a of the inputs extends to the nodes in one way: by the values under a
pub record OneWay (g : List GraphNode) : Type 0 where
  pub some : (a : ℕ → Bool) → Consistent (values a g) g × Agrees a (values a g) g
  pub only : (a v : ℕ → Bool) → Consistent v g → Agrees a v g → (k : ℕ) → k < length g → v k ≡ values a g k
