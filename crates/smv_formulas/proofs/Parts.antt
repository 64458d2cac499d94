-- The first parts, and what expressions hold by their parts.
use Rattle.std.proofs.Common.{◌≡◌, ◌∙◌, ℕ, zero, suc, ◌<◌, ◌≤◌, true, false, List, [], ◌∷◌, length, take, slice_get, Some, None, sym, ap, arith, inl, inr}
use Rattle.std.proofs.lemmas.List.{take-take, length-take}
use Rattle.std.proofs.lemmas.Option.{slice_get_cases, slice_get_within}
use Rattle.smv_tree.specs.declared.place.Place.{Place}
use Rattle.smv_tree.specs.declared.tree.Program.{Program}
use Rattle.smv_value.specs.declared.operator.Operator.{Operator}
use Rattle.smv_resolve.specs.declared.node.ExprNode.{ExprNode}
use Rattle.smv_resolve.specs.Resolved.{Resolved, Operands, operands_of, part_at, part_of, parts_of, resolved_by}
use Rattle.smv_resolve.proofs.Parts.{below_is, part_is, part_past}
use Rattle.smv_meaning.specs.Formulas.{has_temporal}
use Rattle.smv_meaning.specs.Lassos.{Lasso, Holds, IsTrueIn, OperandHolds, operator_holds}
use Rattle.ltl_meaning.proofs.Alike.{AreAlike}
use Rattle.smv_formulas.specs.Trees.{part_below}
use Rattle.smv_formulas.proofs.Operators.{both, either_first, either_second}

-- a node that is one of the first so many
pub inside : (nodes : List ExprNode) (limit k : ℕ) (x : ExprNode) → limit ≤ length nodes → slice_get (take limit nodes) k ≡ Some x → k < limit
inside nodes limit k x within is =
    let lt = slice_get_within (take limit nodes) k x is in omega (arith, length-take limit nodes, lt)

-- it is what it says of the nodes before it
pub below_says : (nodes : List ExprNode) (limit k : ℕ) (x : ExprNode) → limit ≤ length nodes → slice_get (take limit nodes) k ≡ Some x
    → part_below nodes limit k ≡ resolved_by (parts_of (take k nodes)) x
below_says nodes limit k x within is =
    let lt = inside nodes limit k x within is in
    part_is (take limit nodes) k x is ∙ ap (λ (l : List ExprNode). resolved_by (parts_of l) x) (take-take k limit nodes (omega (arith, lt)))

-- it is the part of this number among all
pub below_whole : (nodes : List ExprNode) (limit k : ℕ) → limit ≤ length nodes → k < limit → part_below nodes limit k ≡ part_of nodes k
below_whole nodes limit k within lt = below_is nodes limit k lt within

-- there is no other
pub below_none : (nodes : List ExprNode) (limit k : ℕ) → slice_get (take limit nodes) k ≡ None → part_below nodes limit k ≡ Resolved.Stuck
below_none nodes limit k none =
    elim (slice_get_cases (take limit nodes) k).1 [
      | inl found ↦ absurd (let e = sym none ∙ found.2 in cc)
      | inr past ↦ part_past (take limit nodes) k past.0
    ]

module _ (p : Program) (w : Lasso) where
  -- what is stuck never holds
  pub stuck_never : (t : ℕ) → Holds p w Resolved.Stuck t → ⊥
  stuck_never t x = cc

  -- where no temporal operator stands in an expression, it holds where it is TRUE
  pub unmarked : (r : Resolved) → has_temporal r ≡ false → AreAlike (Holds p w r) (IsTrueIn p w r)
  unmarked (Resolved.Constant place b) h t = both _
  unmarked (Resolved.Slot place n) h t = both _
  unmarked (Resolved.Whole place i) h t = both _
  unmarked (Resolved.Named place naming r) h t = unmarked r h t
  unmarked (Resolved.Next place r) h t = both _
  unmarked (Resolved.Apply place o rs) h t = either_second _ _ _ h t
  unmarked Resolved.Stuck h t = both _

  -- where one stands, it holds by its operator
  pub marked : (place : Place) (o : Operator) (rs : Operands) → has_temporal (Resolved.Apply place o rs) ≡ true
      → AreAlike (Holds p w (Resolved.Apply place o rs)) (operator_holds o (OperandHolds p w rs 0) (OperandHolds p w rs 1))
  marked place o rs h t = either_first _ _ _ h t

  -- the operand of this number
  pub operand_is : (rs : List Resolved) (i : ℕ) → AreAlike (OperandHolds p w (operands_of rs) i) (Holds p w (part_at rs i))
  operand_is [] i t = (λ x. absurd x, λ x. stuck_never t x)
  operand_is (r ∷ rs) zero t = both _
  operand_is (r ∷ rs) (suc i) t = operand_is rs i t
