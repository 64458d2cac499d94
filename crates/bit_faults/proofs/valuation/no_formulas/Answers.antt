-- No edge of any node.
use Rattle.std.proofs.Common.{◌≡◌, ◌∙◌, ◌∷◌, [], ◌++◌, List, None, Option, ap, arith, length, subst, sym}
use Rattle.std.proofs.lemmas.List.{replicate_more}
use Rattle.bit_graph.specs.declared.edge.Edge.{Edge}
use Rattle.smv_resolve.specs.Resolved.{parts_of}
use Rattle.bit_faults.specs.Formulas.{AllStandIfAny, TellsFormulas}
use Rattle.bit_faults.proofs.OfFormulas.{no_edges, none_stand, none_tell}
use Rattle.bit_faults.proofs.valuation.no_formulas.Goals as goal

pub nodes-init : goal.nodes-init
nodes-init c = c.new-made.ensures

pub nodes-preserved : goal.nodes-preserved
nodes-preserved c = c.in_ok-push.ensures.ok ∙ ap (λ (es : List (Option Edge)). es ++ None ∷ []) c.nodes.invariant ∙ replicate_more c.nodes.i None

pub returns-clause-stand : goal.returns-clause-stand
returns-clause-stand c = λ g. subst (AllStandIfAny g) (sym c.nodes.invariant) (none_stand g c.nodes.i)

pub returns-clause-told : goal.returns-clause-told
returns-clause-told c = λ v slots s u.
    let nodes = c.args.nodes.now in
    let all : c.nodes.i ≡ length nodes = omega (arith, c.nodes.auto.i-end, c.nodes-test.false) in
    subst (λ (es : List (Option Edge)). TellsFormulas v slots s u es (parts_of nodes)) (sym (c.nodes.invariant ∙ ap no_edges all)) (none_tell v slots s u nodes)
