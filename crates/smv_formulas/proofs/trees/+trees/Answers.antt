-- Trees say what their parts do.
use Rattle.std.proofs.Common.{◌∙◌, List, [], ◌∷◌, ◌++◌, Result, Ok, Err, refl, sym, ap, subst, arith}
use Rattle.std.specs.Prelude.{IfOk}
use Rattle.smv_meaning.specs.Lassos.{Holds}
use Rattle.ltl_meaning.specs.declared.node.Link.{Link}
use Rattle.ltl_meaning.specs.declared.node.FormulaNode.{FormulaNode as Tree}
use Rattle.ltl_meaning.specs.Temporal.{Temporal, chain_of, formula_of, links_of}
use Rattle.ltl_meaning.specs.Truth.{binary_truth}
use Rattle.smv_formulas.specs.declared.forms.Form.{Form}
use Rattle.smv_formulas.specs.Known.{AreSound, KeepsKnown}
use Rattle.smv_formulas.specs.Trees.{TellsOn, joint_holds, part_below}
use Rattle.smv_formulas.proofs.Chains.{Continues, chain_begins, chain_continues, chain_ends}
use Rattle.smv_formulas.proofs.OfPieces.{known_atom, says_atom, says_joined, says_same}
use Rattle.smv_formulas.proofs.Telling.{grown_twice, tells_unary, tells_within}
use Rattle.smv_formulas.proofs.trees.+trees.Goals as goal

on_ok : {X E : Type 0} (r : Result X E) (P Q : X → Type 0) → ((x : X) → P x → Q x) → IfOk r P → IfOk r Q
on_ok (Ok x) P Q f h = f x h
on_ok (Err e) P Q f h = h

pub chain-loop-next-init : goal.chain-loop-next-init
chain-loop-next-init t c =
    let nodes = c.args.nodes.now in
    let joint = c.args.joint in
    let l : Link Tree = record { operator = joint.operator; operand = c.in_ok-operand.operand } in
    let links = c.in_ok-push.ensures.items ∙ ap (λ (ls : List (Link Tree)). ls ++ l ∷ []) c.new-links.ensures.items in
    record {
      below = omega arith;
      grows = c.in_ok-operand.ensures.grows;
      goes = subst (λ (ls : List (Link Tree)). Continues nodes c.tree.new.atoms.items ls (part_below nodes c.args.limit joint.left)
          (λ p w. binary_truth joint.operator (Holds p w (part_below nodes c.args.limit joint.left)) (Holds p w (part_below nodes c.args.limit joint.right))))
          (sym links)
          (chain_begins nodes c.tree.new.atoms.items l (part_below nodes c.args.limit joint.left) (part_below nodes c.args.limit joint.right) c.in_ok-operand.ensures.says);
      known = λ slots s u before h. c.in_ok-operand.ensures.known slots s u before h.1;
      sound = λ slots s u h. h.0;
    }

pub chain-loop-next-preserved : goal.chain-loop-next-preserved
chain-loop-next-preserved t c =
    let nodes = c.args.nodes.now in
    let joint = c.args.joint in
    let next = c.in-Some.next in
    let l : Link Tree = record { operator = next.operator; operand = c.in_ok-operand-2.operand } in
    let is = c.in-Some.ensures.joint in
    let both = c.in-Some.ensures.sound in
    record {
      below = omega (arith, is.before, c.loop-next.invariant.below);
      grows = grown_twice _ _ _ c.loop-next.invariant.grows c.in_ok-operand-2.ensures.grows;
      goes = subst (λ (ls : List (Link Tree)). Continues nodes c.tree-in-Some.new.atoms.items ls (part_below nodes c.loop-next.left next.left)
          (λ p w. binary_truth joint.operator (Holds p w (part_below nodes c.args.limit joint.left)) (Holds p w (part_below nodes c.args.limit joint.right))))
          (sym c.in_ok-push-2.ensures.items)
          (chain_continues nodes c.loop-next.atoms.items c.tree-in-Some.new.atoms.items c.loop-next.links.items c.loop-next.before c.loop-next.left next l _
          c.loop-next.invariant.goes c.in_ok-operand-2.ensures.grows is refl c.in_ok-operand-2.ensures.says);
      known = λ slots s u before h.
          c.in_ok-operand-2.ensures.known slots s u (c.loop-next.invariant.known slots s u before h) (both slots s u (c.loop-next.invariant.sound slots s u h)).1;
      sound = λ slots s u h. (both slots s u (c.loop-next.invariant.sound slots s u h)).0;
    }

pub chain-returns-clause-tells : goal.chain-returns-clause-tells
chain-returns-clause-tells t c =
    let nodes = c.args.nodes.now in
    let joint = c.args.joint in
    let first = formula_of c.in_ok-first.first in
    let whole = c.in_ok-whole.ensures ∙ ap (λ (ls : List (Link Tree)). chain_of first (links_of ls)) (c.from_vec.ensures ∙ c.reverse.ensures.items) in
    subst (λ (f : Temporal). TellsOn nodes c.tree-2.new.atoms.items f
    (λ p w. binary_truth joint.operator (Holds p w (part_below nodes c.args.limit joint.left)) (Holds p w (part_below nodes c.args.limit joint.right))))
    (sym whole)
    (chain_ends nodes c.loop-next.atoms.items c.tree-2.new.atoms.items c.loop-next.links.items (part_below nodes c.loop-next.before c.loop-next.left) _ first
    c.loop-next.invariant.goes c.in_ok-first.ensures.grows c.in_ok-first.ensures.says)

pub joined-returns-in_ok-whole-in-One-clause-tells : goal.joined-returns-in_ok-whole-in-One-clause-tells
joined-returns-in_ok-whole-in-One-clause-tells t c =
    let nodes = c.args.nodes.now in
    subst (λ (f : Temporal). TellsOn nodes c.tree.new.atoms.items f (joint_holds nodes c.args.limit c.args.form c.args.left c.args.right)) (sym c.in_ok-whole-in-One.ensures)
    (subst (λ (x : Form). TellsOn nodes c.tree.new.atoms.items (Temporal.Unary c.in-One.operator (formula_of c.in_ok-operand-in-One.operand)) (joint_holds nodes c.args.limit x c.args.left c.args.right)) (sym c.in-One.is)
    (tells_unary nodes c.tree.new.atoms.items c.in-One.operator (formula_of c.in_ok-operand-in-One.operand) (λ p w. Holds p w (part_below nodes c.args.limit c.args.left)) c.in_ok-operand-in-One.ensures.says))

pub joined-returns-in_ok-whole-in-Within-clause-tells : goal.joined-returns-in_ok-whole-in-Within-clause-tells
joined-returns-in_ok-whole-in-Within-clause-tells t c =
    let nodes = c.args.nodes.now in
    let w = c.in-Within in
    subst (λ (x : Form). TellsOn nodes c.tree-in-Within.new.atoms.items (formula_of c.in_ok-whole-in-Within.whole) (joint_holds nodes c.args.limit x c.args.left c.args.right)) (sym c.in-Within.is)
    (tells_within nodes c.tree-in-Within.new.atoms.items w.operator w.low w.high (formula_of c.in_ok-operand-in-Within.operand) (formula_of c.in_ok-whole-in-Within.whole)
    (λ p w. Holds p w (part_below nodes c.args.limit c.args.left)) c.in_ok-whole-in-Within.ensures c.in_ok-operand-in-Within.ensures.says)

pub joined-returns-in-Two-clause-tells : goal.joined-returns-in-Two-clause-tells
joined-returns-in-Two-clause-tells t c =
    let nodes = c.args.nodes.now in
    subst (λ (x : Form). IfOk c.chain.result (λ tree. TellsOn nodes c.chain.new.atoms.items (formula_of tree) (joint_holds nodes c.args.limit x c.args.left c.args.right))) (sym c.in-Two.is)
    c.chain.ensures.tells

pub tree-returns-in-Atom-clause-says : goal.tree-returns-in-Atom-clause-says
tree-returns-in-Atom-clause-says t c =
    on_ok c.atom.result _ _
    (λ (x : Tree) a. says_atom c.args.nodes.now c.args.limit c.args.k c.requires.inside c.atom.new.atoms.items (formula_of x) c.in-Atom.ensures.piece a) c.atom.ensures.atom

pub tree-returns-in-Same-clause-says : goal.tree-returns-in-Same-clause-says
tree-returns-in-Same-clause-says t c =
    on_ok c.tree.result _ _
    (λ (x : Tree) a. says_same c.args.nodes.now c.args.limit c.args.k c.requires.inside c.tree.new.atoms.items (formula_of x) c.in-Same.a c.in-Same.ensures.piece a) c.tree.ensures.says

pub tree-returns-in-Joined-clause-says : goal.tree-returns-in-Joined-clause-says
tree-returns-in-Joined-clause-says t c =
    on_ok c.joined.result _ _
    (λ (x : Tree) a. says_joined c.args.nodes.now c.args.limit c.args.k c.requires.inside c.joined.new.atoms.items (formula_of x) c.in-Joined.form c.in-Joined.left c.in-Joined.right c.in-Joined.ensures.piece a) c.joined.ensures.tells

pub chain-returns-clause-known : goal.chain-returns-clause-known
chain-returns-clause-known t c = λ slots s u before h.
    c.in_ok-first.ensures.known slots s u (c.loop-next.invariant.known slots s u before h) (c.loop-next.invariant.sound slots s u h)

pub joined-returns-in_ok-whole-in-One-clause-known : goal.joined-returns-in_ok-whole-in-One-clause-known
joined-returns-in_ok-whole-in-One-clause-known t c = λ slots s u before h.
    c.in_ok-operand-in-One.ensures.known slots s u before
    (subst (λ (x : Form). AreSound x slots s u (part_below c.args.nodes.now c.args.limit c.args.left) (part_below c.args.nodes.now c.args.limit c.args.right)) c.in-One.is h)

pub joined-returns-in_ok-whole-in-Within-clause-known : goal.joined-returns-in_ok-whole-in-Within-clause-known
joined-returns-in_ok-whole-in-Within-clause-known t c = λ slots s u before h.
    c.in_ok-operand-in-Within.ensures.known slots s u before
    (subst (λ (x : Form). AreSound x slots s u (part_below c.args.nodes.now c.args.limit c.args.left) (part_below c.args.nodes.now c.args.limit c.args.right)) c.in-Within.is h)

pub joined-returns-in-Two-clause-known : goal.joined-returns-in-Two-clause-known
joined-returns-in-Two-clause-known t c =
    let nodes = c.args.nodes.now in
    subst (λ (x : Form). IfOk c.chain.result (λ tree. KeepsKnown nodes c.args.atoms.now.items c.chain.new.atoms.items
    (λ slots s u. AreSound x slots s u (part_below nodes c.args.limit c.args.left) (part_below nodes c.args.limit c.args.right)))) (sym c.in-Two.is)
    c.chain.ensures.known

pub tree-returns-in-Atom-clause-known : goal.tree-returns-in-Atom-clause-known
tree-returns-in-Atom-clause-known t c =
    on_ok c.atom.result _ _
    (λ (x : Tree) passes.
    known_atom c.args.nodes.now c.args.limit c.args.k c.requires.inside c.args.atoms.now.items c.atom.new.atoms.items c.in-Atom.ensures.piece.0 c.in-Atom.ensures.sound passes)
    c.atom.ensures.passes

pub tree-returns-in-Same-clause-known : goal.tree-returns-in-Same-clause-known
tree-returns-in-Same-clause-known t c =
    on_ok c.tree.result _ _ (λ (x : Tree) known. λ slots s u before h. known slots s u before (c.in-Same.ensures.sound slots s u h)) c.tree.ensures.known

pub tree-returns-in-Joined-clause-known : goal.tree-returns-in-Joined-clause-known
tree-returns-in-Joined-clause-known t c =
    on_ok c.joined.result _ _ (λ (x : Tree) known. λ slots s u before h. known slots s u before (c.in-Joined.ensures.sound slots s u h)) c.joined.ensures.known
