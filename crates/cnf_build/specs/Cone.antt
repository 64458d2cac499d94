-- The nodes that roots reach.
use Rattle.std.specs.Prelude.{◌≡◌, ℕ, ◌<◌, ◌≤◌, Bool, true, false, List, length, slice_index_or, All}
use Rattle.bit_graph.specs.declared.edge.Edge.{Edge}
use Rattle.bit_graph.specs.declared.edge.GraphNode.{GraphNode}
use Rattle.bit_graph.specs.declared.edge.GraphNode.TheVariants.{False, Input, And, Xor, Choice}

-- the node's operands are live
abbrev pub Reaches : (ℕ → Bool) → GraphNode → Type 0
Reaches live False = Unit {0}
Reaches live Input = Unit {0}
Reaches live (And a b) = (live a.node ≡ true) × (live b.node ≡ true)
Reaches live (Xor a b) = (live a ≡ true) × (live b ≡ true)
Reaches live (Choice c a b) = (live c ≡ true) × (live a ≡ true) × (live b.node ≡ true)

-- the live nodes have their operands among them
abbrev pub IsCone : (ℕ → Bool) → List GraphNode → Type 0
IsCone live g = (k : ℕ) → k < length g → live k ≡ true → Reaches live (slice_index_or g k Input)

-- the roots lead to live nodes
abbrev pub RootsLive : (ℕ → Bool) → List Edge → Type 0
RootsLive live roots = All (λ e. live e.node ≡ true) roots

-- the roots reach node k: it is in each set of nodes that has theirs, and with each node its operands
abbrev pub Reached : List GraphNode → List Edge → ℕ → Type 0
Reached g roots k = (live : ℕ → Bool) → IsCone live g → RootsLive live roots → live k ≡ true

-- node k is marked
abbrev pub marked : List Bool → ℕ → Bool
marked marks k = slice_index_or marks k false

-- each node that is in one set is in the other
abbrev pub Included : (ℕ → Bool) → (ℕ → Bool) → Type 0
Included live other = (k : ℕ) → live k ≡ true → other k ≡ true

-- the live nodes from one on have their operands among the live ones
abbrev pub ConeFrom : (ℕ → Bool) → List GraphNode → ℕ → Type 0
ConeFrom live g from = (k : ℕ) → from ≤ k → k < length g → live k ≡ true → Reaches live (slice_index_or g k Input)

-- the roots reach each live node
abbrev pub AllReached : (ℕ → Bool) → List GraphNode → List Edge → Type 0
AllReached live g roots = (k : ℕ) → live k ≡ true → Reached g roots k
