-- Trees of formulas, whose atoms are numbered as they come.
use Rattle.std.specs.Prelude.{◌≡◌, ◌↔◌, ◌<◌, ℕ, List, ◌++◌, Option, None, Some, slice_get, take}
use Rattle.smv_tree.specs.declared.tree.Program.{Program}
use Rattle.smv_resolve.specs.declared.node.ExprNode.{ExprNode}
use Rattle.smv_resolve.specs.Resolved.{Resolved, part_of}
use Rattle.smv_meaning.specs.Lassos.{Lasso, Holds}
use Rattle.ltl_meaning.specs.declared.node.BoundedOperator.{BoundedOperator}
use Rattle.ltl_meaning.specs.declared.node.Window.{Window}
use Rattle.ltl_meaning.specs.Temporal.{Temporal}
use Rattle.ltl_meaning.specs.Truth.{Moment, binary_truth}
use Rattle.smv_formulas.specs.declared.forms.Form.{Form}
use Rattle.smv_formulas.specs.declared.trees.Joint.{Joint}
use Rattle.smv_formulas.specs.Forms.{form_holds}
use Rattle.smv_formulas.specs.Says.{Tells, atom_parts}

-- numbers of nodes, and perhaps more behind them
pub record Grows (old new : List ℕ) : Type 0 where
  pub more : List ℕ
  pub is : new ≡ old ++ more

-- the part of this number, if it is one of the first so many
abbrev pub part_below : List ExprNode → ℕ → ℕ → Resolved
part_below nodes limit k = part_of (take limit nodes) k

-- the formula tells when this holds, whatever atoms come behind these
abbrev pub TellsOn : List ExprNode → List ℕ → Temporal → (Program → Lasso → Moment) → Type 0
TellsOn nodes atoms f H = (p : Program) (more : List ℕ) → Tells p (atom_parts nodes (atoms ++ more)) f (H p)

abbrev pub SaysOn : List ExprNode → List ℕ → Temporal → Resolved → Type 0
SaysOn nodes atoms f r = TellsOn nodes atoms f (λ p w. Holds p w r)

-- the formula is the atom of this node
pub record IsAtom (atoms : List ℕ) (node : ℕ) (f : Temporal) : Type 0 where
  pub number : ℕ
  pub is : f ≡ Temporal.Atom number
  pub here : slice_get atoms number ≡ Some node

-- the formula is an operator with these bounds over the other
pub record IsWithin (o : BoundedOperator) (low high : ℕ) (operand f : Temporal) : Type 0 where
  pub window : Window
  pub from : window.low ≡ low
  pub to : window.high ≡ high
  pub is : f ≡ Temporal.Bounded o window operand

-- an operator holds of two of the first parts
abbrev pub joint_holds : List ExprNode → ℕ → Form → ℕ → ℕ → Program → Lasso → Moment
joint_holds nodes limit o a b p w = form_holds o (Holds p w (part_below nodes limit a)) (Holds p w (part_below nodes limit b))

-- the part of this number, of the first so many, is an operator between two parts before it
pub record IsJoint (nodes : List ExprNode) (limit k : ℕ) (joint : Joint) : Type 0 where
  pub before : k < limit
  pub holds : (p : Program) (w : Lasso) (t : ℕ) → Holds p w (part_below nodes limit k) t
      ↔ binary_truth joint.operator (Holds p w (part_below nodes k joint.left)) (Holds p w (part_below nodes k joint.right)) t

abbrev pub IsMaybeJoint : List ExprNode → ℕ → ℕ → Option Joint → Type 0
IsMaybeJoint nodes limit k None = Unit {0}
IsMaybeJoint nodes limit k (Some joint) = IsJoint nodes limit k joint
