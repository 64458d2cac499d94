-- Nothing stands for no nodes; and one node more.
use Rattle.std.proofs.Common.{ap, map, take, ◌∙◌, ◌≤◌, length, arith}
use Rattle.smv_resolve.specs.Resolved.{parts_of}
use Rattle.smv_layout.specs.Nodes.{laid_by}
use Rattle.smv_layout.proofs.Laying.{knows_before, laid_more, laid_none}
use Rattle.smv_layout.proofs.expressions.lay_out_nodes.Goals as goal

pub loop-i-init : goal.loop-i-init
loop-i-init c = laid_none c.args.variables.now c.new-nodes.result c.new-entries.result.items c.new-entries.ensures.items

pub loop-i-preserved : goal.loop-i-preserved
loop-i-preserved c =
    let i = c.loop-i.i in
    let within : i ≤ length c.args.from.now = omega (arith, c.loop-i-test.true) in
    let known =
    knows_before c.args.from.now i c.in_ok-constants.constants.items c.first.result.now c.in_ok-indices.indices.items c.first-in-loop-i.result.now within c.in_ok-constants.ensures c.in_ok-indices.ensures
    (c.first.ensures ∙ ap (take i) c.as_slice-in-loop-i.ensures.value) (c.first-in-loop-i.ensures ∙ ap (take i) c.as_slice-in-loop-i-2.ensures.value) in
    laid_more c.args.variables.now c.args.from.now c.loop-i.nodes c.lay_out_node.new.nodes i _ c.loop-i.entries.items c.push.new.self.items c.in_ok-entry.entry c.in_ok-entry.ensures.grows c.loop-i-test.true
    c.loop-i.invariant
    (c.in_ok-entry.ensures.laid (parts_of (take i c.args.from.now)) known (ap (map (laid_by c.loop-i.nodes)) c.as_slice-in-loop-i-3.ensures.value ∙ c.loop-i.invariant.are))
    c.in_ok-push.ensures.items
