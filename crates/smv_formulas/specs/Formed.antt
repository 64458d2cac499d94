-- Formulas whose operators have as many operands as they take.
use Rattle.std.specs.Prelude.{ℕ, suc, ◌==◌, Bool, true, not, ◌&&◌, List, map, length, slice_index_or}
use Rattle.std.specs.List.{list_all}
use Rattle.smv_resolve.specs.declared.node.ExprNode.{ExprNode}
use Rattle.smv_resolve.specs.declared.node.ExprNode.TheVariants as node
use Rattle.smv_resolve.specs.Resolved.{Resolved, Operands, last_of, parts_of}
use Rattle.smv_meaning.specs.Formulas.{has_temporal}
use Rattle.smv_formulas.specs.declared.forms.Form.{Form}
use Rattle.smv_formulas.specs.declared.forms.Form.TheVariants as form
use Rattle.smv_formulas.specs.Forms.{form_of}
use Rattle.smv_formulas.specs.Marks.{mark_at}

abbrev pub operand_count : Operands → ℕ
operand_count Operands.End = 0
operand_count (Operands.With r rs) = suc (operand_count rs)

-- an operator over so many operands is formed, by whether these are
abbrev pub formed_over : Form → ℕ → Bool → Bool
formed_over (form.One o) n operands = n == 1 && operands
formed_over (form.Within o low high) n operands = n == 1 && operands
formed_over (form.Two o) n operands = n == 2 && operands
formed_over form.Neither n operands = true

-- Propositions and temporal operators, down to what is neither, have as many operands as they take. No name stands for
-- what has a temporal operator.
abbrev mutual
  pub is_formed : Resolved → Bool
  is_formed (Resolved.Constant place v) = true
  is_formed (Resolved.Slot place n) = true
  is_formed (Resolved.Whole place i) = true
  is_formed (Resolved.Named place naming r) = not (has_temporal r)
  is_formed (Resolved.Next place r) = true
  is_formed (Resolved.Apply place o rs) = formed_over (form_of o) (operand_count rs) (are_formed rs)
  is_formed Resolved.Stuck = true

  pub are_formed : Operands → Bool
  are_formed Operands.End = true
  are_formed (Operands.With r rs) = is_formed r && are_formed rs

-- of the part of each node
abbrev pub formed_of : List ExprNode → List Bool
formed_of nodes = map is_formed (parts_of nodes)

-- of the part of the node of this number
abbrev pub formed_at : List Bool → ℕ → Bool
formed_at formed k = slice_index_or formed k true

-- of a node, by the marks of the nodes before it, and by whether these are
abbrev pub formed_by : List Bool → List Bool → ExprNode → Bool
formed_by marks formed (node.Constant place b) = true
formed_by marks formed (node.Slot place n) = true
formed_by marks formed (node.Whole place i) = true
formed_by marks formed (node.Named place naming a) = not (mark_at marks a)
formed_by marks formed (node.Next place a) = true
formed_by marks formed (node.Operand a) = formed_at formed a
formed_by marks formed (node.Apply place o count) = formed_over (form_of o) (length (last_of count formed)) (list_all (λ (b : Bool). b) (last_of count formed))
formed_by marks formed (node.Link place o a b) = formed_over (form_of o) 2 (formed_at formed a && formed_at formed b)
