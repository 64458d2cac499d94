-- The formula says what the specification does.
use Rattle.std.proofs.Common.{◌≡◌, ◌∙◌, ◌≤◌, ℕ, Bool, true, List, length, ap, sym, subst, arith}
use Rattle.std.proofs.lemmas.List.{take_all}
use Rattle.smv_slots.specs.Slots.{slots_of}
use Rattle.smv_meaning.specs.Formulas.{is_known_formula}
use Rattle.smv_resolve.specs.declared.node.ExprNode.{ExprNode}
use Rattle.smv_resolve.specs.Resolved.{part_of}
use Rattle.ltl_meaning.specs.Temporal.{formula_of}
use Rattle.smv_formulas.specs.Formed.{formed_at, is_formed}
use Rattle.smv_formulas.specs.Known.{IsSound, are_known}
use Rattle.smv_formulas.specs.Says.{Says, atom_parts}
use Rattle.smv_formulas.specs.Trees.{part_below}
use Rattle.smv_formulas.proofs.Forming.{formed_at-nodes}
use Rattle.smv_formulas.proofs.OnWords.{says_on_word}
use Rattle.smv_formulas.proofs.Telling.{says_whole}
use Rattle.smv_formulas.proofs.specified.formula_of.Goals as goal

pub returns-clause-says : goal.returns-clause-says
returns-clause-says c =
    let nodes = c.as_slice-nodes.result.now in
    let all : length nodes ≤ length nodes = omega arith in
    subst (λ (ns : List ExprNode). Says c.args.typed.now.scope.program (atom_parts ns c.from_vec.result) (formula_of c.in-Some.formula.root) (part_of ns c.args.spec.now.value))
    c.as_slice-nodes.ensures
    (says_whole nodes c.args.typed.now.scope.program c.tree.new.atoms.items c.from_vec.result (length nodes) c.args.spec.now.value
    (formula_of c.in_ok-root.root) (formula_of c.in-Some.formula.root) all c.from_vec.ensures (ap formula_of c.in-Some.ensures.value) c.in_ok-root.ensures.says)

pub returns-clause-words : goal.returns-clause-words
returns-clause-words c = λ w word is t.
    says_on_word c.args.typed.now.scope.program (atom_parts c.args.typed.now.nodes c.from_vec.result) w word is
    (formula_of c.in-Some.formula.root) (part_of c.args.typed.now.nodes c.args.spec.now.value) (returns-clause-says c) t

pub returns-clause-known : goal.returns-clause-known
returns-clause-known c = λ s u h.
    let slots = slots_of c.args.typed.now.scope.program in
    let nodes = c.as_slice-nodes.result.now in
    let given = c.args.typed.now.nodes in
    let v = c.args.spec.now.value in
    let all : length nodes ≤ length nodes = omega arith in
    let on : c.formed_at.result ≡ true = grind (arith, c.if-not-formed_at.false) in
    let formed : is_formed (part_of nodes v) ≡ true =
    sym (formed_at-nodes nodes v) ∙ ap (λ (l : List Bool). formed_at l v) (sym (c.deref.ensures.value ∙ c.in_ok-formed.ensures)) ∙ sym c.formed_at.ensures ∙ on in
    let known : is_known_formula slots s u (part_of nodes v) ≡ true = ap (λ (ns : List ExprNode). is_known_formula slots s u (part_of ns v)) c.as_slice-nodes.ensures ∙ h in
    let sound : IsSound slots s u (part_below nodes (length nodes) v) =
    subst (λ (ns : List ExprNode). IsSound slots s u (part_of ns v)) (sym (take_all (length nodes) nodes all)) (formed, known) in
    let none : are_known slots s u (atom_parts nodes c.new-atoms.result.items) ≡ true = ap (λ (ks : List ℕ). are_known slots s u (atom_parts nodes ks)) c.new-atoms.ensures.items in
    ap (λ (ks : List ℕ). are_known slots s u (atom_parts given ks)) c.from_vec.ensures
    ∙ ap (λ (ns : List ExprNode). are_known slots s u (atom_parts ns c.tree.new.atoms.items)) (sym c.as_slice-nodes.ensures)
    ∙ c.in_ok-root.ensures.known slots s u none sound
