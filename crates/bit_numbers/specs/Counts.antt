-- Lists of operands, and how many are true.
use Rattle.std.specs.Prelude.{◌≡◌, ℕ, Bool, List, [], ◌∷◌, Some, All, count_by}
use Rattle.smv_value.specs.declared.value.Value.{Value}
use Rattle.bit_graph.specs.declared.edge.Edge.{Edge}
use Rattle.bit_graph.specs.declared.edge.GraphNode.{GraphNode}
use Rattle.bit_graph.specs.Meaning.{edge_value}
use Rattle.bit_operators.specs.declared.symbolic.Symbolic.{Symbolic}
use Rattle.bit_operators.specs.Denoting.{StandsIn, denoted}

-- each operand stands for the value at its place, where v has the values of the nodes
abbrev pub AreDenoted : (ℕ → Bool) → List Symbolic → List Value → Type 0
AreDenoted v [] [] = Unit {0}
AreDenoted v [] (x ∷ xs) = ⊥
AreDenoted v (s ∷ ss) [] = ⊥
AreDenoted v (s ∷ ss) (x ∷ xs) = (denoted v s ≡ Some x) × AreDenoted v ss xs

-- each operand's edges lead to nodes of the graph
abbrev pub AllStandIn : List GraphNode → List Symbolic → Type 0
AllStandIn g ss = All (StandsIn g) ss

-- how many of the edges are true
abbrev pub count_true : (ℕ → Bool) → List Edge → ℕ
count_true v es = count_by (edge_value v) es
