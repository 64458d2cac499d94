-- The clauses of a graph (Tseitin 1968), where `name` has the variables of the nodes.
use Rattle.std.specs.Prelude.{ℕ, ◌++◌, Bool, true, false, not, cond, List, [], ◌∷◌, suc}
use Rattle.bit_graph.specs.declared.edge.Edge.{Edge}
use Rattle.bit_graph.specs.declared.edge.GraphNode.{GraphNode}
use Rattle.bit_graph.specs.declared.edge.GraphNode.TheVariants.{False, Input, And, Xor, Choice}
use Rattle.clause_core.specs.declared.literal.Lit.{Lit}
use Rattle.clause_core.specs.Literals.{negate}

-- the literal of an edge: its node's variable, with the edge's sign
abbrev pub lit : (ℕ → ℕ) → Edge → Lit
lit name e = record { var = name e.node; positive = not e.negated }

-- the literal that says that variable i is b
abbrev pub variable_lit : ℕ → Bool → Lit
variable_lit i b = record { var = i; positive = b }

-- the literal that says that node k is b
abbrev pub node_lit : (ℕ → ℕ) → ℕ → Bool → Lit
node_lit name k b = variable_lit (name k) b

-- if node k is true, so is the edge
abbrev pub down : (ℕ → ℕ) → ℕ → Edge → List Lit
down name k a = node_lit name k false ∷ lit name a ∷ []

-- if both literals are true, node k is b
abbrev pub forced : (ℕ → ℕ) → ℕ → Bool → Lit → Lit → List Lit
forced name k b l m = node_lit name k b ∷ negate l ∷ negate m ∷ []

-- the clauses of node k, which is n
abbrev pub clauses_of : (ℕ → ℕ) → ℕ → GraphNode → List (List Lit)
clauses_of name k False = (node_lit name k false ∷ []) ∷ []
clauses_of name k Input = []
clauses_of name k (And a b) = down name k a ∷ down name k b ∷ forced name k true (lit name a) (lit name b) ∷ []
clauses_of name k (Xor a b) =
    forced name k false (node_lit name a true) (node_lit name b true)
    ∷ forced name k true (node_lit name a true) (node_lit name b false)
    ∷ forced name k true (node_lit name a false) (node_lit name b true)
    ∷ forced name k false (node_lit name a false) (node_lit name b false)
    ∷ []
clauses_of name k (Choice c a b) =
    forced name k true (node_lit name c true) (node_lit name a true)
    ∷ forced name k false (node_lit name c true) (node_lit name a false)
    ∷ forced name k true (node_lit name c false) (lit name b)
    ∷ forced name k false (node_lit name c false) (negate (lit name b))
    ∷ forced name k true (node_lit name a true) (lit name b)
    ∷ forced name k false (node_lit name a false) (negate (lit name b))
    ∷ []

-- the clauses of the nodes that are live, where the list begins with node k
abbrev pub cnf_from : (ℕ → Bool) → (ℕ → ℕ) → ℕ → List GraphNode → List (List Lit)
cnf_from live name k [] = []
cnf_from live name k (n ∷ ns) = cond (live k) (clauses_of name k n) [] ++ cnf_from live name (suc k) ns
