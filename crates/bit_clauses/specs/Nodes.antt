-- Clauses over the nodes of a graph: variable k is node k.
use Rattle.std.specs.Prelude.{ℕ, ◌<◌, ◌++◌, Bool, true, false, not, List, [], ◌∷◌, All}
use Rattle.std.specs.List.{list_all, list_any}
use Rattle.bit_graph.specs.declared.edge.Edge.{Edge}
use Rattle.bit_graph.specs.Meaning.{edge_value}
use Rattle.clause_core.specs.declared.literal.Lit.{Lit}

-- the edge of a literal, and the literal of an edge
abbrev pub edge_of : Lit → Edge
edge_of l = record { node = l.var; negated = not l.positive }

abbrev pub literal_of : Edge → Lit
literal_of e = record { var = e.node; positive = not e.negated }

-- where v has the values of the nodes, one of the literals is true
abbrev pub any_true : (ℕ → Bool) → List Lit → Bool
any_true v c = list_any (λ l. edge_value v (edge_of l)) c

-- and each of the clauses has one that is
abbrev pub all_true : (ℕ → Bool) → List (List Lit) → Bool
all_true v cs = list_all (any_true v) cs

-- one of the edges is true
abbrev pub any_edge : (ℕ → Bool) → List Edge → Bool
any_edge v es = list_any (edge_value v) es

-- the literals of the clauses, one clause after the other
abbrev pub literals_in : List (List Lit) → List Lit
literals_in [] = []
literals_in (c ∷ cs) = c ++ literals_in cs
