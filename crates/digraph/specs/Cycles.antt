-- Walks and cycles in a directed graph, which is given by the successors of each node.
use Rattle.std.specs.Prelude.{ℕ, ◌<◌, ◌≤◌, ◌≢◌, List, [], ◌∷◌, length, slice_index, slice_index_or, Contains}

abbrev pub successors : List (List ℕ) → ℕ → List ℕ
successors g a = slice_index_or g a []

abbrev pub Edge : List (List ℕ) → ℕ → ℕ → Type 0
Edge g a b = Contains (successors g a) b

-- all successors are nodes
abbrev pub Closed : List (List ℕ) → Type 0
Closed g = (a v : ℕ) → Edge g a v → v < length g

-- from a to b by way of these nodes
abbrev pub Walk : List (List ℕ) → ℕ → List ℕ → ℕ → Type 0
Walk g a [] b = Edge g a b
Walk g a (x ∷ xs) b = Edge g a x × Walk g x xs b

abbrev pub Leads : List (List ℕ) → ℕ → ℕ → Type 0
Leads g a b = (between : List ℕ) × Walk g a between b

abbrev pub Acyclic : List (List ℕ) → Type 0
Acyclic g = (a : ℕ) → Leads g a a → ⊥

-- no node stands twice
abbrev pub Distinct : List ℕ → Type 0
Distinct ns = (i j : ℕ) → i < j → j < length ns → slice_index ns i ≢ slice_index ns j

-- these nodes lead round to the first
abbrev pub IsCycle : List (List ℕ) → List ℕ → Type 0
IsCycle g [] = ⊥
IsCycle g (x ∷ xs) = Walk g x xs x

-- these nodes lead round to the first, which is the least; none stands twice
pub record IsCanonicalCycle (g : List (List ℕ)) (cycle : List ℕ) : Type 0 where
  pub leads : IsCycle g cycle
  pub simple : Distinct cycle
  pub least : (j : ℕ) → j < length cycle → slice_index cycle 0 ≤ slice_index cycle j
