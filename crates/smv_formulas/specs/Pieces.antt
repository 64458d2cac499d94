-- What a part is to the formula around it, by the parts before it.
use Rattle.std.specs.Prelude.{ℕ, ◌↔◌, ◌<◌, List, take}
use Rattle.smv_tree.specs.declared.tree.Program.{Program}
use Rattle.smv_resolve.specs.declared.node.ExprNode.{ExprNode}
use Rattle.smv_resolve.specs.Resolved.{Resolved, part_at, parts_of}
use Rattle.smv_meaning.specs.Lassos.{Lasso, Holds, IsTrueIn}
use Rattle.smv_formulas.specs.declared.pieces.Piece.{Piece}
use Rattle.smv_formulas.specs.declared.pieces.Piece.TheVariants as piece
use Rattle.smv_formulas.specs.Forms.{form_holds}
use Rattle.smv_formulas.specs.Trees.{part_below}

-- the part holds so
abbrev pub IsPiece : List Resolved → Resolved → Piece → Type 0
IsPiece parts r piece.Never = (p : Program) (w : Lasso) (t : ℕ) → Holds p w r t → ⊥
IsPiece parts r piece.Atom = (p : Program) (w : Lasso) (t : ℕ) → Holds p w r t ↔ IsTrueIn p w r t
IsPiece parts r (piece.Same a) = (p : Program) (w : Lasso) (t : ℕ) → Holds p w r t ↔ Holds p w (part_at parts a) t
IsPiece parts r (piece.Joined o a b) =
    (p : Program) (w : Lasso) (t : ℕ) → Holds p w r t ↔ form_holds o (Holds p w (part_at parts a)) (Holds p w (part_at parts b)) t

-- the part of this number, if it is one of the first so many
abbrev pub IsPieceBelow : List ExprNode → ℕ → ℕ → Piece → Type 0
IsPieceBelow nodes limit k piece.Never = IsPiece (parts_of (take k nodes)) (part_below nodes limit k) piece.Never
IsPieceBelow nodes limit k other = (k < limit) × IsPiece (parts_of (take k nodes)) (part_below nodes limit k) other
