-- What nodes stand for, one behind the other.
use Rattle.std.specs.Prelude.{◌≡◌, ℕ, ◌<◌, List, length, map, Option, None, Some, ℤ, slice_get}
use Rattle.std.specs.List.{All}
use Rattle.smv_resolve.specs.declared.node.ExprNode.{ExprNode}
use Rattle.smv_resolve.specs.Resolved.{Resolved, part_of}
use Rattle.smv_declared.specs.declared.constant.Constant.{Constant}
use Rattle.smv_declared.specs.Constants.{constant_of}
use Rattle.smv_layout.specs.declared.laid.LaidNode.{LaidNode}
use Rattle.smv_layout.specs.declared.laid.LaidNode.TheVariants as node
use Rattle.smv_layout.specs.declared.laid.SubarrayNode.{SubarrayNode}
use Rattle.smv_layout.specs.declared.laid.SubscriptNode.{SubscriptNode}
use Rattle.smv_layout.specs.Arrays.{Subscript}
use Rattle.smv_layout.specs.Indices.{index_of}
use Rattle.smv_layout.specs.Layout.{Laid, Subarray}

-- the node of this number is this expression
pub record IsNode (nodes : List ExprNode) (n : ℕ) (r : Resolved) : Type 0 where
  pub stands : n < length nodes
  pub is : part_of nodes n ≡ r

abbrev pub AllStand : List ExprNode → List ℕ → Type 0
AllStand nodes ks = All (λ k. k < length nodes) ks

-- the nodes of these numbers are these expressions
pub record AreNodes (nodes : List ExprNode) (ks : List ℕ) (rs : List Resolved) : Type 0 where
  pub stand : AllStand nodes ks
  pub are : map (part_of nodes) ks ≡ rs

-- indices, each over the node of what stands there

abbrev pub subscript_by : List ExprNode → SubscriptNode → Subscript
subscript_by nodes x = record { place = x.place; index = part_of nodes x.node; constant = x.constant }

abbrev pub SubscriptsStand : List ExprNode → List SubscriptNode → Type 0
SubscriptsStand nodes xs = All (λ x. x.node < length nodes) xs

-- what is laid out, over nodes

abbrev pub subarray_by : List ExprNode → SubarrayNode → Subarray
subarray_by nodes x = record {
  variable = x.variable;
  place = x.place;
  subscripts = map (subscript_by nodes) x.subscripts;
  whole = part_of nodes x.whole;
}

abbrev pub laid_by : List ExprNode → LaidNode → Laid
laid_by nodes (node.Value n) = Laid.Value (part_of nodes n)
laid_by nodes (node.Array x) = Laid.Array (subarray_by nodes x)

-- the node of its value, or of what stands for it where no element is meant
abbrev pub node_of : LaidNode → ℕ
node_of (node.Value n) = n
node_of (node.Array x) = x.whole

-- its nodes are there
abbrev pub Stands : List ExprNode → LaidNode → Type 0
Stands nodes (node.Value n) = n < length nodes
Stands nodes (node.Array x) = (x.whole < length nodes) × SubscriptsStand nodes x.subscripts

-- what stands for the node of this number; where there is none, nothing does
abbrev pub entry_by : List ExprNode → Option LaidNode → Laid
entry_by nodes None = Laid.Value Resolved.Stuck
entry_by nodes (Some x) = laid_by nodes x

abbrev pub laid_at : List ExprNode → List LaidNode → ℕ → Laid
laid_at nodes xs k = entry_by nodes (slice_get xs k)

-- it stands for this
pub record IsLaid (nodes : List ExprNode) (x : LaidNode) (y : Laid) : Type 0 where
  pub stands : Stands nodes x
  pub is : laid_by nodes x ≡ y

-- these stand for those
pub record AreLaid (nodes : List ExprNode) (xs : List LaidNode) (ys : List Laid) : Type 0 where
  pub stand : All (Stands nodes) xs
  pub are : map (laid_by nodes) xs ≡ ys

-- indices that stand for those
pub record AreSubscripts (nodes : List ExprNode) (xs : List SubscriptNode) (ys : List Subscript) : Type 0 where
  pub stand : SubscriptsStand nodes xs
  pub are : map (subscript_by nodes) xs ≡ ys

-- which of the nodes before one, which are these parts, are constants
pub record Knows (constants : List Constant) (indices : List (Option ℤ)) (parts : List Resolved) : Type 0 where
  pub constants_are : constants ≡ map constant_of parts
  pub indices_are : indices ≡ map index_of parts
