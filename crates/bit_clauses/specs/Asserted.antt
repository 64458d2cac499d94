-- Pairs of edges, one of which is to be true.
use Rattle.std.specs.Prelude.{ℕ, Bool, ◌||◌, List, All}
use Rattle.std.specs.List.{list_all}
use Rattle.bit_graph.specs.declared.edge.Edge.{Edge}
use Rattle.bit_graph.specs.declared.edge.GraphNode.{GraphNode}
use Rattle.bit_graph.specs.Meaning.{edge_value, Stands}
use Rattle.bit_clauses.specs.declared.either.Either.{Either}

-- one of the two edges is true
abbrev pub holds : (ℕ → Bool) → Either → Bool
holds v e = edge_value v e.one || edge_value v e.other

-- one of each pair is
abbrev pub all_hold : (ℕ → Bool) → List Either → Bool
all_hold v es = list_all (holds v) es

-- both edges lead to nodes of the graph
abbrev pub EitherStands : List GraphNode → Either → Type 0
EitherStands g e = Stands g e.one × Stands g e.other

abbrev pub EithersStand : List GraphNode → List Either → Type 0
EithersStand g es = All (EitherStands g) es
