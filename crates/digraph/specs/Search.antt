-- Where a depth-first search for a cycle stands, and what its steps do.
use Rattle.std.specs.Prelude.{◌≡◌, ℕ, ◌<◌, ◌≤◌, ◌+◌, ◌≢◌, List, length, slice_index, slice_index_or, All, Contains, sum_by, ◌*◌, take, drop}
use Rattle.digraph.specs.Cycles.{Edge, Distinct, successors}
use Rattle.digraph.specs.declared.mark.Mark.{Mark}
use Rattle.digraph.specs.declared.mark.Mark.TheVariants as M
use Rattle.digraph.specs.declared.mark.Next.{Next}
use Rattle.digraph.specs.declared.mark.Next.TheVariants as N

-- the mark of a node
abbrev pub mark : List Mark → ℕ → Mark
mark marks u = slice_index_or marks u M.New

-- the search has left the node
abbrev pub IsDone : Mark → Type 0
IsDone m = (r : ℕ) × (m ≡ M.Done r)

-- what is said of the successors of a node: all are finished; or one is new, and those before it are finished; or one
-- stands on the path
abbrev pub NextSays : List Mark → List ℕ → Next → Type 0
NextSays marks vs N.AllDone = All (λ v. IsDone (mark marks v)) vs
NextSays marks vs (N.Fresh v i) = Contains vs v × (mark marks v ≡ M.New) × All (λ w. IsDone (mark marks w)) (take i vs)
NextSays marks vs (N.Back v) = Contains vs v × (mark marks v ≡ M.Open)

-- each finished node leads to nodes alone that were finished before it
abbrev pub Falling : List (List ℕ) → List Mark → Type 0
Falling g marks = (u r : ℕ) → mark marks u ≡ M.Done r → (v : ℕ) → Edge g u v → (q : ℕ) × (q < r) × (mark marks v ≡ M.Done q)

-- how many times the mark of a node may still change
abbrev pub weight : Mark → ℕ
weight M.New = 2
weight M.Open = 1
weight (M.Done r) = 0

-- where a search stands: the open nodes are those of the path, each of which leads to the next
pub record Searched (g : List (List ℕ)) (marks : List Mark) (path : List ℕ) (done : ℕ) : Type 0 where
  pub long : length marks ≡ length g
  pub falling : Falling g marks
  pub below : (u r : ℕ) → mark marks u ≡ M.Done r → r < done
  pub standing : (i : ℕ) → i < length path → mark marks (slice_index path i) ≡ M.Open
  pub found : (u : ℕ) → mark marks u ≡ M.Open → (i : ℕ) × (i < length path) × (slice_index path i ≡ u)
  pub distinct : Distinct path
  pub room : done + sum_by weight marks ≤ 2 * length g
  pub chain : (i : ℕ) → i + 1 < length path → Edge g (slice_index path i) (slice_index path (i + 1))

-- of each node, this many of the first successors are finished
pub record Scanned (g : List (List ℕ)) (marks : List Mark) (scanned : List ℕ) : Type 0 where
  pub long : length scanned ≡ length g
  pub passed : (u : ℕ) → All (λ v. IsDone (mark marks v)) (take (slice_index scanned u) (successors g u))

-- no node is made new again
abbrev pub Begun : List Mark → List Mark → Type 0
Begun before after = (u : ℕ) → mark before u ≢ M.New → mark after u ≢ M.New

-- a step has come nearer to the end
pub record Stepped (g : List (List ℕ)) (before after : List Mark) (path : List ℕ) (done : ℕ) : Type 0 where
  pub at : Searched g after path done
  pub begun : Begun before after
  pub lighter : sum_by weight after < sum_by weight before

-- the end of the path that begins where v stands
abbrev pub IsEndAt : List ℕ → ℕ → List ℕ → Type 0
IsEndAt path v cycle = (i : ℕ) × (i < length path) × (slice_index path i ≡ v) × (cycle ≡ drop i path)
