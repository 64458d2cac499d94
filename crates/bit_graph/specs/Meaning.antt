-- What the nodes and edges of a graph stand for.
use Rattle.std.specs.Prelude.{◌≡◌, ℕ, ◌<◌, Bool, true, false, not, ◌&&◌, cond, List, length, slice_index_or}
use Rattle.bit_graph.specs.declared.edge.Edge.{Edge}
use Rattle.bit_graph.specs.declared.edge.GraphNode.{GraphNode}
use Rattle.bit_graph.specs.declared.edge.GraphNode.TheVariants.{False, Input, And, Xor, Choice}

-- true where just one is
abbrev pub exclusive_or : Bool → Bool → Bool
exclusive_or true b = not b
exclusive_or false b = b

-- the value of an edge, where v has the values of the nodes
abbrev pub edge_value : (ℕ → Bool) → Edge → Bool
edge_value v e = exclusive_or e.negated (v e.node)

-- the node computes its value from those of nodes before it
abbrev pub IsGate : GraphNode → Type 0
IsGate False = ⊥
IsGate Input = ⊥
IsGate (And a b) = Unit {0}
IsGate (Xor a b) = Unit {0}
IsGate (Choice c a b) = Unit {0}

-- the value of a gate, where v has the values of the nodes
abbrev pub gate_value : (ℕ → Bool) → GraphNode → Bool
gate_value v False = false
gate_value v Input = false
gate_value v (And a b) = edge_value v a && edge_value v b
gate_value v (Xor a b) = exclusive_or (v a) (v b)
gate_value v (Choice c a b) = cond (v c) (v a) (edge_value v b)

-- in v, node k, which is n, has the value that n gives it
abbrev pub NodeHolds : (ℕ → Bool) → ℕ → GraphNode → Type 0
NodeHolds v k False = v k ≡ false
NodeHolds v k Input = Unit {0}
NodeHolds v k (And a b) = v k ≡ (edge_value v a && edge_value v b)
NodeHolds v k (Xor a b) = v k ≡ exclusive_or (v a) (v b)
NodeHolds v k (Choice c a b) = v k ≡ cond (v c) (v a) (edge_value v b)

-- v has at each node of g the value that the node gives it
pub record Consistent (v : ℕ → Bool) (g : List GraphNode) : Type 0 where
  pub holds : (k : ℕ) → k < length g → NodeHolds v k (slice_index_or g k Input)

-- the operands come before node k, which is n
abbrev pub IsBelow : ℕ → GraphNode → Type 0
IsBelow k False = Unit {0}
IsBelow k Input = Unit {0}
IsBelow k (And a b) = (a.node < k) × (b.node < k)
IsBelow k (Xor a b) = (a < k) × (b < k)
IsBelow k (Choice c a b) = (c < k) × (a < k) × (b.node < k)

-- each node's operands come before it
pub record Acyclic (g : List GraphNode) : Type 0 where
  pub below : (k : ℕ) → k < length g → IsBelow k (slice_index_or g k Input)

-- the edge leads to a node of g
abbrev pub Stands : List GraphNode → Edge → Type 0
Stands g e = e.node < length g

-- node k of g is n
abbrev pub IsNode : List GraphNode → ℕ → GraphNode → Type 0
IsNode g k n = (k < length g) × (slice_index_or g k Input ≡ n)

-- the first n nodes are the inputs, and no other is
pub record HasInputs (n : ℕ) (g : List GraphNode) : Type 0 where
  pub at : (k : ℕ) → k < n → IsNode g k Input
  pub only : (k : ℕ) → k < length g → slice_index_or g k Input ≡ Input → k < n

-- no node of g is n
abbrev pub IsNew : List GraphNode → GraphNode → Type 0
IsNew g n = (k : ℕ) → IsNode g k n → ⊥

-- the edge's value is f of the nodes' values, in g and so in each graph that extends it
abbrev pub Denotes : List GraphNode → Edge → ((ℕ → Bool) → Bool) → Type 0
Denotes g e f = (v : ℕ → Bool) → Consistent v g → edge_value v e ≡ f v
