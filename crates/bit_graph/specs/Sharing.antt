-- Equal nodes are shared.
use Rattle.std.specs.Prelude.{◌≡◌, ℕ, ◌<◌, Bool, List, Some}
use Rattle.std.specs.Map.{lookup}
use Rattle.bit_graph.specs.contracts.edge.GraphNodePartialEq.TheImpl as node_test
use Rattle.bit_graph.specs.declared.edge.Edge.{Edge}
use Rattle.bit_graph.specs.declared.edge.GraphNode.{GraphNode}
use Rattle.bit_graph.specs.declared.edge.GraphNode.TheVariants.{False, Input, And, Xor, Choice}
use Rattle.bit_graph.specs.Meaning.{IsNode, IsGate}

-- the two nodes are one
abbrev pub node_eq : GraphNode → GraphNode → Bool
node_eq = node_test.eq-value.it

-- the table has the number of each gate of g, and nothing else
pub record SharesIn (g : List GraphNode) (table : List (GraphNode × ℕ)) : Type 0 where
  pub found : (n : GraphNode) (k : ℕ) → lookup (node_eq n) table ≡ Some k → IsNode g k n
  pub complete : (n : GraphNode) (k : ℕ) → IsGate n → IsNode g k n → lookup (node_eq n) table ≡ Some k

-- node k is always false
abbrev pub IsFalse : List GraphNode → ℕ → Type 0
IsFalse g k = IsNode g k False

-- the edge leads to a node that is always false
abbrev pub IsConstant : List GraphNode → Edge → Type 0
IsConstant g e = IsFalse g e.node

-- the operands of the node are different nodes and no constants, and where their order does not matter, the one with
-- the lower number is the first
abbrev pub Folded : List GraphNode → GraphNode → Type 0
Folded g False = Unit {0}
Folded g Input = Unit {0}
Folded g (And a b) = (a.node < b.node) × (IsConstant g a → ⊥) × (IsConstant g b → ⊥)
Folded g (Xor a b) = (a < b) × (IsFalse g a → ⊥) × (IsFalse g b → ⊥)
Folded g (Choice c a b) =
    ((c ≡ a → ⊥) × (c ≡ b.node → ⊥) × (a ≡ b.node → ⊥)) × (IsFalse g c → ⊥) × (IsFalse g a → ⊥) × (IsConstant g b → ⊥)

abbrev pub IsFolded : List GraphNode → Type 0
IsFolded g = (n : GraphNode) (k : ℕ) → IsNode g k n → Folded g n

-- no node could be left out at sight: no two gates are the same, and none has an operand that decides it or stands
-- twice
pub record IsReduced (g : List GraphNode) : Type 0 where
  pub same : (n : GraphNode) (j k : ℕ) → IsGate n → IsNode g j n → IsNode g k n → j ≡ k
  pub folded : IsFolded g
