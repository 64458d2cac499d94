-- Lists of edges as numbers, the lowest bit first.
use Rattle.std.specs.Prelude.{ℕ, ◌+◌, ◌*◌, Bool, true, false, not, map, List, [], ◌∷◌, All}
use Rattle.bit_graph.specs.declared.edge.Edge.{Edge}
use Rattle.bit_graph.specs.declared.edge.GraphNode.{GraphNode}
use Rattle.bit_graph.specs.Meaning.{edge_value, Stands}

-- 1 for a bit that is set
abbrev pub bit : Bool → ℕ
bit true = 1
bit false = 0

-- the number whose bits, the lowest first, f gives
abbrev pub number : {A : Type 0} → (A → Bool) → List A → ℕ
number f [] = 0
number f (x ∷ xs) = bit (f x) + 2 * number f xs

-- the number of a list of edges, where v has the values of the nodes
abbrev pub number_of : (ℕ → Bool) → List Edge → ℕ
number_of v es = number (edge_value v) es

-- the values of a list of edges
abbrev pub values_of : (ℕ → Bool) → List Edge → List Bool
values_of v es = map (edge_value v) es

-- each edge of the list leads to a node of the graph
abbrev pub AllStand : List GraphNode → List Edge → Type 0
AllStand g es = All (Stands g) es

-- the edge with the opposite value
abbrev pub flip : Edge → Edge
flip e = record e { negated = not e.negated }
