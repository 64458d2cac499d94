-- What a chain of operators stands for, one link after another.
use Rattle.std.proofs.Common.{◌≡◌, ℕ, ◌+◌, ◌-◌, ◌<◌, ◌≤◌, List, [], ◌∷◌, length, drop, drop-cons, get_or, sym, ap, ◌∙◌, subst, arith, add-one}
use Rattle.std.proofs.Math.ListN.{drop_of_length-le}
use Rattle.ltl_meaning.specs.declared.node.UnaryOperator.{UnaryOperator}
use Rattle.ltl_meaning.specs.declared.node.BinaryOperator.{BinaryOperator}
use Rattle.ltl_meaning.specs.declared.node.BoundedOperator.{BoundedOperator}
use Rattle.ltl_meaning.specs.declared.node.Window.{Window}
use Rattle.ltl_meaning.specs.declared.node.Link.{Link}
use Rattle.ltl_meaning.specs.declared.node.FormulaNode.{FormulaNode}
use Rattle.ltl_meaning.specs.declared.node.FormulaNode.TheOpen.{FormulaNode-F}
use Rattle.ltl_meaning.specs.declared.node.FormulaNode.TheFolds.{fold-roll-FormulaNode}
use Rattle.ltl_meaning.specs.declared.node.FormulaNode.TheVariants.{Unary, Bounded, Implies, Chain, rolls-Unary, rolls-Bounded, rolls-Implies, rolls-Chain}
use Rattle.ltl_meaning.specs.Temporal.{Temporal, chain_of, formula_at, formula_of, links_of}
use Rattle.ltl_meaning.specs.Ltl.{past_height}
use Rattle.ltl_meaning.specs.Unfolded.{unfolded, repeated, delay, widen}

-- a chain's node stands for its operands, joined from left to right
pub formula_of-Chain : (f : FormulaNode) (links : List (Link FormulaNode)) → formula_of (Chain f links) ≡ chain_of (formula_of f) (links_of links)
formula_of-Chain f links =
    ap formula_of (sym (rolls-Chain f links)) ∙ fold-roll-FormulaNode Temporal formula_at (FormulaNode-F.Chain f links)

-- before the first link
pub chain_starts : (whole first : FormulaNode) (links : List (Link FormulaNode)) → whole ≡ Chain first links →
    chain_of (formula_of first) (links_of (drop 0 links)) ≡ formula_of whole
chain_starts whole first links is = sym (ap formula_of is ∙ formula_of-Chain first links)

-- one link more
pub chain_goes_on : (f whole : Temporal) (links : List (Link FormulaNode)) (i : ℕ) (link : Link FormulaNode) → i < length links → link ≡ get_or links i link →
    chain_of f (links_of (drop i links)) ≡ whole →
    chain_of (Temporal.Binary link.operator f (formula_of link.operand)) (links_of (drop (i + 1) links)) ≡ whole
chain_goes_on f whole links i link within is so_far =
    let first = subst (λ ls. chain_of f (links_of ls) ≡ whole) (drop-cons links i link within) so_far in
    let here = subst
    (λ j. chain_of (Temporal.Binary (get_or links i link).operator f (formula_of (get_or links i link).operand)) (links_of (drop j links)) ≡ whole)
    (sym (add-one i)) first in
    subst (λ (l : Link FormulaNode). chain_of (Temporal.Binary l.operator f (formula_of l.operand)) (links_of (drop (i + 1) links)) ≡ whole) (sym is) here

-- after the last link
pub chain_ends : (f whole : Temporal) (links : List (Link FormulaNode)) (i : ℕ) → length links ≤ i →
    chain_of f (links_of (drop i links)) ≡ whole → f ≡ whole
chain_ends f whole links i past so_far =
    subst (λ ls. chain_of f (links_of ls) ≡ whole) (drop_of_length-le links past) so_far

-- a node of one operator
pub formula_of-Unary : (o : UnaryOperator) (f : FormulaNode) → formula_of (Unary o f) ≡ Temporal.Unary o (formula_of f)
formula_of-Unary o f = ap formula_of (sym (rolls-Unary o f)) ∙ fold-roll-FormulaNode Temporal formula_at (FormulaNode-F.Unary o f)

pub formula_of-Implies : (f g : FormulaNode) → formula_of (Implies f g) ≡ Temporal.Binary BinaryOperator.Implies (formula_of f) (formula_of g)
formula_of-Implies f g = ap formula_of (sym (rolls-Implies f g)) ∙ fold-roll-FormulaNode Temporal formula_at (FormulaNode-F.Implies f g)

pub formula_of-Bounded : (o : BoundedOperator) (w : Window) (f : FormulaNode) → formula_of (Bounded o w f) ≡ Temporal.Bounded o w (formula_of f)
formula_of-Bounded o w f = ap formula_of (sym (rolls-Bounded o w f)) ∙ fold-roll-FormulaNode Temporal formula_at (FormulaNode-F.Bounded o w f)

-- and without bounds
pub bounded_is : (node operand inner : FormulaNode) (o : BoundedOperator) (w : Window) → node ≡ Bounded o w operand → inner ≡ operand →
    unfolded (formula_of node) ≡ repeated (delay o) w.low (repeated (widen o) (w.high - w.low) (unfolded (formula_of inner)))
bounded_is node operand inner o w is same =
    ap (λ g. unfolded (formula_of g)) is ∙ ap unfolded (formula_of-Bounded o w operand)
    ∙ ap (λ g. repeated (delay o) w.low (repeated (widen o) (w.high - w.low) (unfolded (formula_of g)))) (sym same)

-- past operators nest no deeper in a chain's first operand than in the whole
pub first-le-chain : (f : Temporal) (links : List (Link Temporal)) → past_height (unfolded f) ≤ past_height (unfolded (chain_of f links))
first-le-chain f [] = omega arith
first-le-chain f (l ∷ ls) = omega (arith, first-le-chain (Temporal.Binary l.operator f l.operand) ls)

-- nor in a link's operator and its operands so far
pub link-le-chain : (f whole : Temporal) (links : List (Link FormulaNode)) (i : ℕ) (link : Link FormulaNode) → i < length links → link ≡ get_or links i link →
    chain_of f (links_of (drop i links)) ≡ whole →
    past_height (unfolded (Temporal.Binary link.operator f (formula_of link.operand))) ≤ past_height (unfolded whole)
link-le-chain f whole links i link within is so_far =
    subst (λ g. past_height (unfolded (Temporal.Binary link.operator f (formula_of link.operand))) ≤ past_height (unfolded g))
    (chain_goes_on f whole links i link within is so_far)
    (first-le-chain (Temporal.Binary link.operator f (formula_of link.operand)) (links_of (drop (i + 1) links)))
