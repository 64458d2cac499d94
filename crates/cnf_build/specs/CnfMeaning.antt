-- What the clauses of a graph say of its nodes.
use Rattle.std.specs.Prelude.{◌≡◌, ℕ, ◌<◌, Bool, true, false, List, length, slice_index_or, All, map, ◌↔◌}
use Rattle.bit_graph.specs.declared.edge.Edge.{Edge}
use Rattle.bit_graph.specs.declared.edge.GraphNode.{GraphNode}
use Rattle.bit_graph.specs.declared.edge.GraphNode.TheVariants.{False, Input, And, Xor, Choice}
use Rattle.bit_graph.specs.Meaning.{edge_value, NodeHolds}
use Rattle.bit_graph.specs.Values.{values, value_under, Agrees}
use Rattle.clause_core.specs.declared.literal.Lit.{Lit}
use Rattle.clause_core.specs.Literals.{negate}
use Rattle.clause_core.specs.Assignments.{ClauseTrue}
use Rattle.clause_core.specs.Propagation.{Closed}
use Rattle.cnf_build.specs.Encoding.{lit, node_lit, cnf_from}
use Rattle.cnf_build.specs.Cone.{IsCone, RootsLive, AllReached, Reached}
use Rattle.cnf_build.specs.Numbering.{HasVariable, Numbering, is_named, count_below}

-- where t sets both literals, it sets that node k is b
abbrev pub Forces : (ℕ → ℕ) → (Lit → Bool) → ℕ → Bool → Lit → Lit → Type 0
Forces name t k b l m = t l ≡ true → t m ≡ true → t (node_lit name k b) ≡ true

-- where the literals that t sets decide node k, which is n, t sets its literal too: a choice is decided by its
-- condition and the branch that this takes, or by two branches that are alike
abbrev pub NodeSet : (ℕ → ℕ) → (Lit → Bool) → ℕ → GraphNode → Type 0
NodeSet name t k False = t (node_lit name k false) ≡ true
NodeSet name t k Input = Unit {0}
NodeSet name t k (And a b) =
    Forces name t k true (lit name a) (lit name b)
    × (t (negate (lit name a)) ≡ true → t (node_lit name k false) ≡ true)
    × (t (negate (lit name b)) ≡ true → t (node_lit name k false) ≡ true)
NodeSet name t k (Xor a b) =
    Forces name t k false (node_lit name a true) (node_lit name b true)
    × Forces name t k true (node_lit name a true) (node_lit name b false)
    × Forces name t k true (node_lit name a false) (node_lit name b true)
    × Forces name t k false (node_lit name a false) (node_lit name b false)
NodeSet name t k (Choice c a b) =
    Forces name t k true (node_lit name c true) (node_lit name a true)
    × Forces name t k false (node_lit name c true) (node_lit name a false)
    × Forces name t k true (node_lit name c false) (lit name b)
    × Forces name t k false (node_lit name c false) (negate (lit name b))
    × Forces name t k true (node_lit name a true) (lit name b)
    × Forces name t k false (node_lit name a false) (negate (lit name b))

-- P of each input that the roots reach
abbrev pub AllRead : List GraphNode → List Edge → (ℕ → Type 0) → Type 0
AllRead g roots P = (k : ℕ) → k < length g → slice_index_or g k Input ≡ Input → Reached g roots k → P k

-- t sets the literal of each input that the roots reach
abbrev pub InputsSet : List GraphNode → List Edge → (ℕ → ℕ) → (ℕ → Bool) → (Lit → Bool) → Type 0
InputsSet g roots name a t = AllRead g roots (λ k. t (node_lit name k (a k)) ≡ true)

-- the values of the nodes, where v has those of the variables
abbrev pub of_nodes : (ℕ → ℕ) → (ℕ → Bool) → ℕ → Bool
of_nodes name v k = v (name k)

-- each variable has the value of its node, where the inputs have those of a
abbrev pub HasValues : List GraphNode → (ℕ → ℕ) → ℕ → (ℕ → Bool) → (ℕ → Bool) → Type 0
HasValues g node vars a v = (i : ℕ) → i < vars → v i ≡ values a g (node i)

-- the clauses `cs` over the variables below `vars`, and the literals of the roots
pub record CnfLaw (g : List GraphNode) (roots : List Edge) (vars : ℕ) (cs : List (List Lit)) (lits : List Lit) : Type 0 where
  -- the inputs and the nodes that the roots reach have one variable each
  pub numbering : Numbering g roots vars
  pub literals : lits ≡ map (lit numbering.variable) roots
  -- an assignment of the inputs extends to the clauses in one way: to the values of the nodes
  pub one_way : (a v : ℕ → Bool) →
      (Agrees a (of_nodes numbering.variable v) g × All (ClauseTrue v) cs) ↔ HasValues g numbering.node vars a v
  -- there the roots' literals are true where the roots are
  pub agrees : (a v : ℕ → Bool) → HasValues g numbering.node vars a v →
      All (λ e. edge_value (of_nodes numbering.variable v) e ≡ value_under a g e) roots
  -- the nodes that the roots reach depend on no input that they don't reach
  pub depends : (a b : ℕ → Bool) → AllRead g roots (λ k. a k ≡ b k) →
      (k : ℕ) → k < length g → Reached g roots k → values a g k ≡ values b g k
  -- unit propagation from the inputs that the roots reach sets the variable of each node that they reach
  pub spreads : (a : ℕ → Bool) (t : Lit → Bool) → Closed t cs → InputsSet g roots numbering.variable a t →
      (k : ℕ) → k < length g → Reached g roots k → t (node_lit numbering.variable k (values a g k)) ≡ true
  -- node by node: the clauses are true exactly where each node has the value that it gives itself
  pub holds : (v : ℕ → Bool) → All (ClauseTrue v) cs ↔
      ((k : ℕ) → HasVariable g roots k → NodeHolds (of_nodes numbering.variable v) k (slice_index_or g k Input))
  -- and unit propagation sets a node's variable once operands that decide it are set
  pub sets : (t : Lit → Bool) → Closed t cs →
      (k : ℕ) → HasVariable g roots k → NodeSet numbering.variable t k (slice_index_or g k Input)

-- the clauses are those of the live nodes, which are the nodes that the roots reach; live nodes and inputs are numbered
-- in their order
pub record IsCnf (g : List GraphNode) (roots : List Edge) (vars : ℕ) (cs : List (List Lit)) (lits : List Lit) : Type 0 where
  pub live : ℕ → Bool
  pub name : ℕ → ℕ
  pub clauses : cs ≡ cnf_from live name 0 g
  pub literals : lits ≡ map (lit name) roots
  pub cone : IsCone live g
  pub roots_live : RootsLive live roots
  pub reached : AllReached live g roots
  pub numbers : (k : ℕ) → k < length g → name k ≡ count_below (is_named live g) k
  pub count : vars ≡ count_below (is_named live g) (length g)
