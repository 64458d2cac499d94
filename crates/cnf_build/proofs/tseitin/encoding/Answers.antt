use Rattle.std.proofs.Common.{◌≡◌, ◌<◌, arith, ◌∙◌, length, ◌++◌, cond, [], false, sym}
use Rattle.std.proofs.lemmas.List.{get_or_read}
use Rattle.cnf_build.specs.Encoding.{clauses_of}
use Rattle.cnf_build.specs.Cone.{marked}
use Rattle.cnf_build.specs.Numbering.{name_in}
use Rattle.cnf_build.proofs.Cones.{cnf_more}
use Rattle.cnf_build.proofs.tseitin.encoding.Goals as goal

pub nodes-preserved : goal.nodes-preserved
nodes-preserved c =
    let here : c.nodes.k < length c.args.graph.now = omega arith in
    let in_marks : c.nodes.k < length c.in_ok-marks.marks.items = omega (arith, c.in_ok-marks.ensures.size) in
    let mark : c.index.result.now ≡ marked c.in_ok-marks.marks.items c.nodes.k = get_or_read c.in_ok-marks.marks.items c.nodes.k c.index.result.now in_marks c.index.ensures false in
    c.in_ok-push_live.ensures
    ∙ (λ i. c.nodes.invariant i ++ cond (mark i) (clauses_of (name_in (c.deref-in-nodes.ensures.value i)) c.nodes.k c.node.result) [])
    ∙ sym (cnf_more (marked c.in_ok-marks.marks.items) (name_in c.in_ok-names.names.items) c.args.graph.now c.nodes.k c.node.result here c.node.ensures.value)
