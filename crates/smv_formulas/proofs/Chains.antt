-- Chains of formulas, from the last link on.
use Rattle.std.proofs.Common.{◌≡◌, ℕ, List, [], ◌∷◌, ◌++◌, reverse, sym, subst}
use Rattle.std.proofs.lemmas.List.{reverse-append}
use Rattle.smv_tree.specs.declared.tree.Program.{Program}
use Rattle.smv_resolve.specs.declared.node.ExprNode.{ExprNode}
use Rattle.smv_resolve.specs.Resolved.{Resolved}
use Rattle.smv_meaning.specs.Lassos.{Holds}
use Rattle.ltl_meaning.specs.declared.node.BinaryOperator.{BinaryOperator}
use Rattle.ltl_meaning.specs.declared.node.Link.{Link}
use Rattle.ltl_meaning.specs.declared.node.FormulaNode.{FormulaNode as Tree}
use Rattle.ltl_meaning.specs.Temporal.{Temporal, chain_of, formula_of, links_of}
use Rattle.ltl_meaning.specs.Truth.{binary_truth}
use Rattle.ltl_meaning.proofs.Alike.{AreAlike, binary_alike, flipped}
use Rattle.smv_formulas.specs.declared.trees.Joint.{Joint}
use Rattle.smv_formulas.specs.Says.{Tells, atom_parts}
use Rattle.smv_formulas.specs.Trees.{Grows, IsJoint, SaysOn, TellsOn, part_below}
use Rattle.smv_formulas.proofs.Operators.{chained}
use Rattle.smv_formulas.proofs.Telling.{Held, more_behind}

-- whatever formula says what is left, with the links behind it tells the whole
pub record Continues (nodes : List ExprNode) (atoms : List ℕ) (links : List (Link Tree)) (left : Resolved) (K : Held) : Type 0 where
  pub goes : (p : Program) (more : List ℕ) (f : Temporal) → Tells p (atom_parts nodes (atoms ++ more)) f (λ w. Holds p w left)
      → Tells p (atom_parts nodes (atoms ++ more)) (chain_of f (links_of (reverse links))) (K p)

module _ (nodes : List ExprNode) where
  joins : (atoms more : List ℕ) (p : Program) (f g : Temporal) (o : BinaryOperator) (left right : Resolved)
      → Tells p (atom_parts nodes (atoms ++ more)) f (λ w. Holds p w left) → SaysOn nodes atoms g right
      → Tells p (atom_parts nodes (atoms ++ more)) (Temporal.Binary o f g) (λ w. binary_truth o (Holds p w left) (Holds p w right))
  joins atoms more p f g o left right so operand = record { told = λ w t. binary_alike _ _ (so.told w) _ _ ((operand p more).told w) o t }

  -- one link
  pub chain_begins : (atoms : List ℕ) (l : Link Tree) (left right : Resolved) → SaysOn nodes atoms (formula_of l.operand) right
      → Continues nodes atoms (l ∷ []) left (λ p w. binary_truth l.operator (Holds p w left) (Holds p w right))
  chain_begins atoms l left right operand =
      record { goes = λ p more f so. joins atoms more p f (formula_of l.operand) l.operator left right so operand }

  -- one link more, before the others
  pub chain_continues : (old new : List ℕ) (links : List (Link Tree)) (before left : ℕ) (joint : Joint) (l : Link Tree) (K : Held)
      → Continues nodes old links (part_below nodes before left) K → Grows old new → IsJoint nodes before left joint
      → l.operator ≡ joint.operator → SaysOn nodes new (formula_of l.operand) (part_below nodes left joint.right)
      → Continues nodes new (links ++ l ∷ []) (part_below nodes left joint.left) K
  chain_continues old new links before left joint l K so_far grows is operator operand = record {
    goes = λ p more f so.
        let a = part_below nodes left joint.left in
        let b = part_below nodes left joint.right in
        let g = Temporal.Binary l.operator f (formula_of l.operand) in
        let here : Tells p (atom_parts nodes (new ++ more)) g (λ w. Holds p w (part_below nodes before left)) = record {
          told = λ w t.
              chained _ _ _ ((joins new more p f (formula_of l.operand) l.operator a b so operand).told w)
              (subst (λ (o : BinaryOperator). AreAlike (binary_truth o (Holds p w a) (Holds p w b)) (Holds p w (part_below nodes before left))) (sym operator)
              (flipped _ _ (is.holds p w))) t;
        } in
        let behind = more_behind old new more grows in
        let there = so_far.goes p (grows.more ++ more) g (subst (λ (x : List ℕ). Tells p (atom_parts nodes x) g (λ w. Holds p w (part_below nodes before left))) behind here) in
        subst (λ (ls : List (Link Tree)). Tells p (atom_parts nodes (new ++ more)) (chain_of f (links_of ls)) (K p)) (sym (reverse-append links (l ∷ [])))
        (subst (λ (x : List ℕ). Tells p (atom_parts nodes x) (chain_of g (links_of (reverse links))) (K p)) (sym behind) there);
  }

  -- the whole
  pub chain_ends : (old new : List ℕ) (links : List (Link Tree)) (left : Resolved) (K : Held) (f : Temporal)
      → Continues nodes old links left K → Grows old new → SaysOn nodes new f left → TellsOn nodes new (chain_of f (links_of (reverse links))) K
  chain_ends old new links left K f so_far grows says p more =
      let behind = more_behind old new more grows in
      subst (λ (x : List ℕ). Tells p (atom_parts nodes x) (chain_of f (links_of (reverse links))) (K p)) (sym behind)
      (so_far.goes p (grows.more ++ more) f (subst (λ (x : List ℕ). Tells p (atom_parts nodes x) f (λ w. Holds p w left)) behind (says p more)))
