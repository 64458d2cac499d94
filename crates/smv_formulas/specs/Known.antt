-- Where the atoms of a formula are known: TRUE, FALSE or a fault.
use Rattle.std.specs.Prelude.{◌≡◌, ℕ, Bool, true, List, [], Option, None, Some, take}
use Rattle.std.specs.List.{list_all}
use Rattle.smv_tree.specs.declared.tree.Program.{Program}
use Rattle.smv_value.specs.declared.value.Value.{Value}
use Rattle.smv_slots.specs.declared.slot.Slot.{Slot}
use Rattle.smv_slots.specs.Slots.{slots_of}
use Rattle.smv_resolve.specs.declared.node.ExprNode.{ExprNode}
use Rattle.smv_resolve.specs.Resolved.{Resolved, part_at, parts_of}
use Rattle.smv_meaning.specs.Formulas.{is_known, is_known_formula}
use Rattle.smv_meaning.specs.Values.{outcome}
use Rattle.smv_formulas.specs.declared.forms.Form.{Form}
use Rattle.smv_formulas.specs.declared.forms.Form.TheVariants as form
use Rattle.smv_formulas.specs.declared.pieces.Piece.{Piece}
use Rattle.smv_formulas.specs.declared.pieces.Piece.TheVariants as piece
use Rattle.smv_formulas.specs.declared.trees.Joint.{Joint}
use Rattle.smv_formulas.specs.Formed.{is_formed}
use Rattle.smv_formulas.specs.Says.{atom_parts}
use Rattle.smv_formulas.specs.Trees.{part_below}

-- each of these expressions is TRUE or FALSE or faults in the state s with the inputs u
abbrev pub are_known : List Slot → List Value → List Value → List Resolved → Bool
are_known slots s u parts = list_all (λ (r : Resolved). is_known (outcome slots s u [] r)) parts

-- these parts are known in each state and with all inputs with which the expression is a known formula
abbrev pub AreKnownWith : Program → Resolved → List Resolved → Type 0
AreKnownWith p r parts = (s u : List Value) → is_known_formula (slots_of p) s u r ≡ true → are_known (slots_of p) s u parts ≡ true

-- an expression is a known formula whose operators have as many operands as they take
abbrev pub IsSound : List Slot → List Value → List Value → Resolved → Type 0
IsSound slots s u r = (is_formed r ≡ true) × (is_known_formula slots s u r ≡ true)

-- the operands of an operator are
abbrev pub AreSound : Form → List Slot → List Value → List Value → Resolved → Resolved → Type 0
AreSound (form.One o) slots s u a b = IsSound slots s u a
AreSound (form.Within o low high) slots s u a b = IsSound slots s u a
AreSound (form.Two o) slots s u a b = IsSound slots s u a × IsSound slots s u b
AreSound form.Neither slots s u a b = Unit {0}

-- what follows for what a sound part is made of
abbrev pub IsSoundPiece : List Resolved → Resolved → Piece → Type 0
IsSoundPiece parts r piece.Never = Unit {0}
IsSoundPiece parts r piece.Atom = (slots : List Slot) (s u : List Value) → IsSound slots s u r → is_known (outcome slots s u [] r) ≡ true
IsSoundPiece parts r (piece.Same a) = (slots : List Slot) (s u : List Value) → IsSound slots s u r → IsSound slots s u (part_at parts a)
IsSoundPiece parts r (piece.Joined o a b) = (slots : List Slot) (s u : List Value) → IsSound slots s u r → AreSound o slots s u (part_at parts a) (part_at parts b)

-- the same of one of the first so many parts
abbrev pub IsSoundBelow : List ExprNode → ℕ → ℕ → Piece → Type 0
IsSoundBelow nodes limit k x = IsSoundPiece (parts_of (take k nodes)) (part_below nodes limit k) x

-- the operands of an operator between two are sound where it is
abbrev pub IsSoundJoint : List ExprNode → ℕ → ℕ → Option Joint → Type 0
IsSoundJoint nodes limit k None = Unit {0}
IsSoundJoint nodes limit k (Some joint) =
    (slots : List Slot) (s u : List Value) → IsSound slots s u (part_below nodes limit k)
    → IsSound slots s u (part_below nodes k joint.left) × IsSound slots s u (part_below nodes k joint.right)

-- where this is so the new atoms are known, if the old ones are
abbrev pub KeepsKnown : List ExprNode → List ℕ → List ℕ → (List Slot → List Value → List Value → Type 0) → Type 0
KeepsKnown nodes old new H =
    (slots : List Slot) (s u : List Value) → are_known slots s u (atom_parts nodes old) ≡ true → H slots s u → are_known slots s u (atom_parts nodes new) ≡ true
