-- Clauses of gates, which give the literals of edges their values.
use Rattle.std.specs.Prelude.{◌≡◌, ℕ, Bool, List, [], ◌∷◌, All, map}
use Rattle.bit_graph.specs.declared.edge.Edge.{Edge}
use Rattle.bit_graph.specs.declared.edge.GraphNode.{GraphNode}
use Rattle.bit_graph.specs.Values.{values, value_under}
use Rattle.clause_core.specs.declared.literal.Lit.{Lit}
use Rattle.clause_core.specs.declared.literal.Lit.{Lit}
use Rattle.clause_core.specs.Systems.{Gives}
use Rattle.cnf_build.specs.Encoding.{lit}
use Rattle.bit_clauses.specs.declared.either.Either.{Either}
use Rattle.bit_clauses.specs.Asserted.{all_hold}
use Rattle.bit_clauses.specs.Deciding.{Decides, Defines}

-- the clauses give the edge's literal its value under each assignment of the n inputs
abbrev pub HasLiteral : ℕ → List GraphNode → (ℕ → ℕ) → List (List Lit) → Edge → Type 0
HasLiteral n g name cs e = Defines n cs (lit name e) (λ x. value_under x g e)

-- the clauses have values for each assignment of the n inputs of the graph, in one way, and give the literals, one for
-- each edge, their edges' values
pub record IsGated (n : ℕ) (g : List GraphNode) (es : List Edge) (cs : List (List Lit)) (lits : List Lit) : Type 0 where
  pub name : ℕ → ℕ
  pub literals : lits ≡ map (lit name) es
  pub gives : Gives n [] cs
  pub values : All (HasLiteral n g name cs) es

-- the clauses decide whether the conditions hold, by the inputs
abbrev pub DecidesGroup : ℕ → List GraphNode → List Either → List (List Lit) → Type 0
DecidesGroup n g es cs = Decides n cs (λ x. all_hold (values x g) es)

-- the clauses give each literal the value of the function at its place
unfoldable pub DefinesAll : ℕ → List (List Lit) → List Lit → List ((ℕ → Bool) → Bool) → Type 0
DefinesAll n cs [] [] = Unit {0}
DefinesAll n cs [] (f ∷ fs) = ⊥
DefinesAll n cs (l ∷ ls) [] = ⊥
DefinesAll n cs (l ∷ ls) (f ∷ fs) = Defines n cs l f × DefinesAll n cs ls fs

-- the clauses give the literals the values of the edges
abbrev pub DefinesEdges : ℕ → List GraphNode → List Edge → List (List Lit) → List Lit → Type 0
DefinesEdges n g es cs lits = DefinesAll n cs lits (map (λ (e : Edge). λ (x : ℕ → Bool). value_under x g e) es)
