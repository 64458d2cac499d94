-- No nodes are told, and one node more.
use Rattle.std.proofs.Common.{◌∙◌, ◌≤◌, arith, length, take}
use Rattle.smv_resolve.specs.Resolved.{parts_of}
use Rattle.smv_types.proofs.Judging.{constants_before, none_told, one_more}
use Rattle.smv_types.proofs.kinds.judge_nodes.Goals as goal

pub loop-i-init : goal.loop-i-init
loop-i-init c = rw (c.in_ok-operands.ensures.items, c.in_ok-judged.ensures) (none_told c.args.slots.now c.args.types.now)

pub loop-i-preserved : goal.loop-i-preserved
loop-i-preserved c =
    let i = c.loop-i.i in
    let within : i ≤ length c.args.nodes.now = omega (arith, c.loop-i-test.true) in
    let constants =
    constants_before c.args.nodes.now i c.args.constants.now c.first.result.now within c.requires c.first.ensures in
    rw (c.in_ok-push.ensures.items, c.in_ok-push-2.ensures)
    (one_more c.args.slots.now c.args.types.now c.args.nodes.now i _ c.loop-i.operands.items c.loop-i.judged c.told-operand.result c.in_ok-one.one
    c.loop-i-test.true c.loop-i.invariant
    (λ parts told. c.told-operand.ensures c.args.types.now parts (c.as_slice.ensures.value ∙ c.in_ok-kinds.ensures) (c.as_slice-in-loop-i.ensures.value ∙ told))
    (λ h. c.in_ok-one.ensures c.args.types.now (parts_of (take i c.args.nodes.now)) constants (rw c.as_slice-in-loop-i-2.ensures.value h)))
