-- Parts of a graph that were taken over into another, and the inputs that these read.
use Rattle.std.specs.Prelude.{◌≡◌, ◌==◌, ℕ, ◌<◌, Bool, List, All, Option, None, Some}
use Rattle.std.specs.HashMap.{get}
use Rattle.bit_graph.specs.declared.edge.Edge.{Edge}
use Rattle.bit_graph.specs.declared.edge.GraphNode.{GraphNode}
use Rattle.bit_graph.specs.Meaning.{Denotes, HasInputs, Stands}
use Rattle.bit_graph.specs.Values.{values}
use Rattle.bit_faults.specs.declared.cones.Cone.{Cone}

-- both give these inputs the same values
abbrev pub AgreeOn : List ℕ → (ℕ → Bool) → (ℕ → Bool) → Type 0
AgreeOn read a b = All (λ k. a k ≡ b k) read

-- the edge has the value that f gives to the inputs, and f reads these inputs alone
pub record IsCopy (g : List GraphNode) (read : List ℕ) (e : Edge) (f : (ℕ → Bool) → Bool) : Type 0 where
  pub stands : Stands g e
  pub value : Denotes g e f
  pub reads : (a b : ℕ → Bool) → AgreeOn read a b → f a ≡ f b

-- so it is of the edge, if there is one
abbrev pub Takes : List GraphNode → List ℕ → Option Edge → ((ℕ → Bool) → Bool) → Type 0
Takes g read None f = Unit {0}
Takes g read (Some e) f = IsCopy g read e f

-- the edge that was made for node k
abbrev pub place : Cone → ℕ → Option Edge
place x k = get (λ (i j : ℕ). i == j) x.places k

-- the n inputs are those of g, and each edge that was made for a node of g has its value
pub record Copies (n : ℕ) (g : List GraphNode) (x : Cone) : Type 0 where
  pub inputs : HasInputs n x.graph
  pub within : All (λ k. k < n) x.read.items
  pub taken : (k : ℕ) → Takes x.graph x.read.items (place x k) (λ a. values a g k)
