-- What stays the same as a graph grows.
use Rattle.std.specs.Prelude.{ℕ, ◌≤◌, Bool, List, length}
use Rattle.bit_graph.specs.declared.edge.Edge.{Edge}
use Rattle.bit_graph.specs.declared.edge.GraphNode.{GraphNode}
use Rattle.bit_graph.specs.Meaning.{Consistent, HasInputs}
use Rattle.bit_graph.specs.Values.{HasValue}

-- h has grown out of g: g's edges stand in it, what g says of the nodes' values h says too, each edge of g
-- keeps its value under each assignment, and the inputs are the same
pub record Extends (g h : List GraphNode) : Type 0 where
  pub longer : length g ≤ length h
  pub kept : (v : ℕ → Bool) → Consistent v h → Consistent v g
  pub values : (a : ℕ → Bool) (e : Edge) (b : Bool) → HasValue a g e b → HasValue a h e b
  pub inputs : (n : ℕ) → HasInputs n g → HasInputs n h
