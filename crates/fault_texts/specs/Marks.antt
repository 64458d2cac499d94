-- Marks of nodes.
use Rattle.std.specs.Prelude.{◌≡◌, ℕ, ◌-◌, ◌<◌, ◌==◌, Bool, true, false, ◌&&◌, ◌||◌, nat_lt, nat_le, if◌then◌else◌, List, length, Option, None, Some, slice_get, slice_index_or}
use Rattle.smv_resolve.specs.declared.node.ExprNode.{ExprNode}
use Rattle.smv_resolve.specs.declared.node.ExprNode.TheVariants as node
use Rattle.smv_resolve.specs.Resolved.{Resolved, part_of}
use Rattle.smv_flat.specs.Assignments.{occurs}
use Rattle.fault_texts.specs.declared.reads.Sought.{Sought}
use Rattle.fault_texts.specs.declared.reads.Sought.TheVariants as sought

-- the mark of the node of this number
abbrev pub mark : List Bool → ℕ → Bool
mark marks k = slice_index_or marks k false

-- the node of number k has that of number j as a part, and outside of `next`
abbrev pub reads : ℕ → ExprNode → ℕ → Bool
reads k (node.Constant place v) j = false
reads k (node.Slot place n) j = false
reads k (node.Whole place i) j = false
reads k (node.Named place naming a) j = nat_lt j k && j == a
reads k (node.Next place a) j = false
reads k (node.Operand a) j = nat_lt j k && j == a
reads k (node.Apply place o count) j = nat_lt j k && nat_le (k - count) j
reads k (node.Link place o a b) j = nat_lt j k && (j == a || j == b)

-- the nodes that pass the test are marked too
pub record Marks (test : ℕ → Bool) (old new : List Bool) : Type 0 where
  pub long : length new ≡ length old
  pub marks : (j : ℕ) → mark new j ≡ (mark old j || test j)

-- what the one node reads, the other reads too
abbrev pub IsWithin : List ExprNode → ℕ → ℕ → Type 0
IsWithin nodes j k = (ahead : Bool) (y : ℕ) → occurs ahead y (part_of nodes j) ≡ true → occurs ahead y (part_of nodes k) ≡ true

-- Nodes are marked too that stand in those that were marked, and all that marked nodes read are marked.
pub record Spreads (nodes : List ExprNode) (old new : List Bool) : Type 0 where
  pub long : length new ≡ length old
  pub kept : (k : ℕ) → mark old k ≡ true → mark new k ≡ true
  pub from : (j : ℕ) → mark new j ≡ true → (k : ℕ) × (mark old k ≡ true) × IsWithin nodes j k
  pub on : (k : ℕ) (x : ExprNode) (j : ℕ) → mark new k ≡ true → slice_get nodes k ≡ Some x → reads k x j ≡ true → mark new j ≡ true

-- the slot that a node is, if it is one
abbrev pub slot_of : ExprNode → Option ℕ
slot_of (node.Slot place n) = Some n
slot_of other = None

-- the node that stands under the `next` that the node of number k is, if it is one
abbrev pub under_next : ℕ → ExprNode → Option ℕ
under_next k (node.Next place a) = if nat_lt a k then Some a else None
under_next k other = None

-- what is looked for of a marked node
abbrev pub number_sought : Sought → ℕ → ExprNode → Option ℕ
number_sought sought.Slot k x = slot_of x
number_sought sought.Under k x = under_next k x

-- a marked node has this number
pub record IsSought (nodes : List ExprNode) (marks : List Bool) (what : Sought) (n : ℕ) : Type 0 where
  pub at : ℕ
  pub node : ExprNode
  pub marked : mark marks at ≡ true
  pub is : slice_get nodes at ≡ Some node
  pub number : number_sought what at node ≡ Some n

-- the numbers below this one that marked nodes have are marked
pub record Finds (nodes : List ExprNode) (marks : List Bool) (what : Sought) (size : ℕ) (found : List Bool) : Type 0 where
  pub long : length found ≡ size
  pub all : (n : ℕ) → n < size → IsSought nodes marks what n → mark found n ≡ true
  pub only : (n : ℕ) → mark found n ≡ true → IsSought nodes marks what n

-- of each slot whether it occurs in the expression
abbrev pub TellsSlots : Bool → Resolved → ℕ → List Bool → Type 0
TellsSlots ahead r slots found = (n : ℕ) → n < slots → mark found n ≡ occurs ahead n r
