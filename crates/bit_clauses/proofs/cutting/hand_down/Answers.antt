-- The claims of one node more.
use Rattle.std.proofs.Common.{◌≡◌, ◌∙◌, ℕ, ◌<◌, ◌↔◌, Bool, true, false, not, length, subst, ap, arith}
use Rattle.std.proofs.lemmas.List.{get_or_read}
use Rattle.bit_graph.specs.declared.edge.Edge.{Edge}
use Rattle.bit_graph.specs.Meaning.{edge_value}
use Rattle.bit_clauses.specs.Claims.{Meant, marked}
use Rattle.bit_clauses.specs.Nodes.{all_true}
use Rattle.bit_clauses.proofs.Meanings.{handed_down}
use Rattle.bit_clauses.proofs.cutting.hand_down.Goals as goal

pub returns-clause-means : goal.returns-clause-means
returns-clause-means c = λ v ok.
    let k : ℕ = c.args.k in
    let on = c.args.claims.now.on.items in
    let off = c.args.claims.now.off.items in
    let in_on : k < length on = omega (arith, c.requires.on, c.requires.below) in
    let in_off : k < length off = omega (arith, c.requires.off, c.requires.below) in
    let on_is : c.index-on.result.now ≡ marked on k = get_or_read on k c.index-on.result.now in_on c.index-on.ensures false in
    let off_is : c.index-off.result.now ≡ marked off k = get_or_read off k c.index-off.result.now in_off c.index-off.ensures false in
    let First : Edge → Type 0 = λ e.
    Meant v c.ask_if.new.made c.ask_if.new.claims e.node ↔ (Meant v c.args.made.now c.args.claims.now e.node × (c.index-on.result.now ≡ true → edge_value v e ≡ true)) in
    let Second : Edge → Type 0 = λ e.
    Meant v c.ask_if-2.new.made c.ask_if-2.new.claims e.node ↔ (Meant v c.ask_if.new.made c.ask_if.new.claims e.node × (c.index-off.result.now ≡ true → edge_value v e ≡ true)) in
    let turned = c.negation.ensures ∙ ap (λ (e : Edge). record e { negated = not e.negated }) c.to-node.ensures in
    handed_down v on off k (all_true v c.args.made.now ≡ true) (Meant v c.ask_if.new.made c.ask_if.new.claims k) (Meant v c.ask_if-2.new.made c.ask_if-2.new.claims k)
    c.index-on.result.now c.index-off.result.now on_is off_is (subst First c.to-node.ensures (c.in_ok-ask_if.ensures.means v ok)) (subst Second turned (c.in_ok-ask_if-2.ensures.means v ok))
