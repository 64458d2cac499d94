-- Formulas of linear temporal logic with past and with bounds, as trees: what a program's formula says,
-- whatever way it is kept. The operators are those of the NuSMV 2.6 User Manual, section 2.4.3 (LTL
-- Specifications).
use Rattle.std.specs.Prelude.{ℕ, ◌+◌, max, Bool, List, [], ◌∷◌, map}
use Rattle.ltl_meaning.specs.declared.node.UnaryOperator.{UnaryOperator}
use Rattle.ltl_meaning.specs.declared.node.BoundedOperator.{BoundedOperator}
use Rattle.ltl_meaning.specs.declared.node.BinaryOperator.{BinaryOperator}
use Rattle.ltl_meaning.specs.declared.node.Window.{Window}
use Rattle.ltl_meaning.specs.declared.node.Link.{Link}
use Rattle.ltl_meaning.specs.declared.node.FormulaNode.{FormulaNode}
use Rattle.ltl_meaning.specs.declared.node.FormulaNode.TheOpen.{FormulaNode-F}
use Rattle.ltl_meaning.specs.declared.node.FormulaNode.TheFolds.{fold-FormulaNode}
use Rattle.ltl_meaning.specs.Ltl.{past_unary, past_binary}

-- a formula: a constant, an atom by its number, or an operator over formulas, maybe with bounds
pub data Temporal : Type 0 where
  Constant : Bool → Temporal
  Atom : ℕ → Temporal
  Unary : UnaryOperator → Temporal → Temporal
  Bounded : BoundedOperator → Window → Temporal → Temporal
  Binary : BinaryOperator → Temporal → Temporal → Temporal

-- operators of one precedence level, read from left to right: `a & b & c` is `(a & b) & c`
abbrev pub chain_of : Temporal → List (Link Temporal) → Temporal
chain_of f [] = f
chain_of f (l ∷ ls) = chain_of (Temporal.Binary l.operator f l.operand) ls

-- one node, with the formula of each operand in its place
abbrev pub formula_at : FormulaNode-F Temporal → Temporal
formula_at (FormulaNode-F.Constant b) = Temporal.Constant b
formula_at (FormulaNode-F.Atom a) = Temporal.Atom a
formula_at (FormulaNode-F.Unary o f) = Temporal.Unary o f
formula_at (FormulaNode-F.Bounded o w f) = Temporal.Bounded o w f
formula_at (FormulaNode-F.Implies f g) = Temporal.Binary BinaryOperator.Implies f g
formula_at (FormulaNode-F.Chain f links) = chain_of f links

-- the formula that a node and all below it stand for
abbrev pub formula_of : FormulaNode → Temporal
formula_of = fold-FormulaNode Temporal formula_at

-- the links of a chain, with the formula of each operand
abbrev pub links_of : List (Link FormulaNode) → List (Link Temporal)
links_of links = map (λ l. record { operator = l.operator; operand = formula_of l.operand }) links

-- how far an operator with bounds looks back
abbrev pub past_bounded : BoundedOperator → Window → ℕ
past_bounded BoundedOperator.Finally w = 0
past_bounded BoundedOperator.Globally w = 0
past_bounded BoundedOperator.Once w = w.high
past_bounded BoundedOperator.Historically w = w.high

-- how deep operators that look at earlier times nest, where one with bounds counts as often as it looks back
abbrev pub past_depth : Temporal → ℕ
past_depth (Temporal.Constant b) = 0
past_depth (Temporal.Atom a) = 0
past_depth (Temporal.Unary o f) = past_unary o + past_depth f
past_depth (Temporal.Bounded o w f) = past_bounded o w + past_depth f
past_depth (Temporal.Binary o f g) = past_binary o + max (past_depth f) (past_depth g)
