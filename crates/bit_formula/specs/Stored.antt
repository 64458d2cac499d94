-- A formula is stored as a node.
use Rattle.std.proofs.Common.{◌≡◌, ◌∙◌, [], ◌∷◌, ap, sym}
use Rattle.std.specs.Coded.{Coded, code_by}
use Rattle.ltl_meaning.specs.declared.node.FormulaNode.{FormulaNode}
use Rattle.ltl_meaning.specs.declared.node.FormulaNode.TheVariants as node
use Rattle.ltl_meaning.specs.declared.node.FormulaNode.TheOpen.{FormulaNode-F}
use Rattle.ltl_meaning.specs.declared.node.FormulaNode.TheFolds.{fold-roll-FormulaNode}
use Rattle.ltl_meaning.specs.Temporal.{Temporal, formula_at, formula_of}
use Rattle.ltl_meaning.proofs.Chains.{formula_of-Bounded, formula_of-Chain, formula_of-Unary}

abbrev pub node_of : Temporal → FormulaNode
node_of (Temporal.Constant b) = node.Constant b
node_of (Temporal.Atom a) = node.Atom a
node_of (Temporal.Unary o f) = node.Unary o (node_of f)
node_of (Temporal.Bounded o w f) = node.Bounded o w (node_of f)
node_of (Temporal.Binary o f g) = node.Chain (node_of f) (record { operator = o; operand = node_of g } ∷ [])

pub formula_back : (f : Temporal) → formula_of (node_of f) ≡ f
formula_back (Temporal.Constant b) = ap formula_of (sym (node.rolls-Constant b)) ∙ fold-roll-FormulaNode Temporal formula_at (FormulaNode-F.Constant b)
formula_back (Temporal.Atom a) = ap formula_of (sym (node.rolls-Atom a)) ∙ fold-roll-FormulaNode Temporal formula_at (FormulaNode-F.Atom a)
formula_back (Temporal.Unary o f) = formula_of-Unary o (node_of f) ∙ ap (Temporal.Unary o) (formula_back f)
formula_back (Temporal.Bounded o w f) = formula_of-Bounded o w (node_of f) ∙ ap (Temporal.Bounded o w) (formula_back f)
formula_back (Temporal.Binary o f g) =
    formula_of-Chain (node_of f) (record { operator = o; operand = node_of g } ∷ [])
    ∙ ap (λ (x : Temporal). Temporal.Binary o x (formula_of (node_of g))) (formula_back f)
    ∙ ap (λ (x : Temporal). Temporal.Binary o f x) (formula_back g)

abbrev pub formula_code : Coded FormulaNode → Coded Temporal
formula_code code = code_by FormulaNode code node_of formula_of formula_back
