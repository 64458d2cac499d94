-- What is told of an operator follows from what is told of its operands.
use Rattle.std.proofs.Common.{◌∙◌}
use Rattle.smv_types.proofs.Judging.{applied_last, applied_two}
use Rattle.smv_types.proofs.told.told.Goals as goal

pub returns-in-Apply : goal.returns-in-Apply
returns-in-Apply c = λ types parts kinds told.
    rw c.in-Apply.is
    (c.told_apply.ensures ∙ applied_last c.args.slots.now types c.in-Apply.operator c.in-Apply.count parts c.args.operands.now _ c.last.ensures told)

pub returns-in-Link : goal.returns-in-Link
returns-in-Link c = λ types parts kinds told.
    rw c.in-Link.is
    (c.told_apply-in-Link.ensures
    ∙ applied_two c.args.slots.now types c.in-Link.operator parts c.args.operands.now c.in-Link.a c.in-Link.b _ _ c.told_at-in-Link.ensures c.told_at-in-Link-2.ensures told)
