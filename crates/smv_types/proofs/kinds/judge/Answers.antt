-- What is noted of a node follows from what is told and noted of its parts.
use Rattle.std.proofs.Common.{◌∙◌, ◌∷◌, [], ap}
use Rattle.smv_resolve.specs.Resolved.{part_at}
use Rattle.smv_types.specs.Kinds.{written_bounds}
use Rattle.smv_types.proofs.Judging.{judged_is, last_constants, last_tells, told_is, two_constants, two_tell}
use Rattle.smv_types.proofs.kinds.judge.Goals as goal

pub returns-in-Constant : goal.returns-in-Constant
returns-in-Constant c = λ types parts k h. rw c.in-Constant.is (c.judge_constant.ensures c.args.slots.now types)

pub returns-in-Slot : goal.returns-in-Slot
returns-in-Slot c = λ types parts k h. rw c.in-Slot.is (c.judge_slot.ensures types)

pub returns-in-Whole : goal.returns-in-Whole
returns-in-Whole c = λ types parts k h. rw c.in-Whole.is (c.judge_whole.ensures c.args.slots.now types c.in-Whole.field-1)

pub returns-in-Named : goal.returns-in-Named
returns-in-Named c = λ types parts k h.
    rw c.in-Named.is
    (c.judge_named.ensures types (part_at parts c.in-Named.a) (rw c.at.ensures (judged_is c.args.slots.now types parts c.args.operands.now c.args.table.now h c.in-Named.a))
    (ap (λ x. x.kind) (c.told_at.ensures ∙ told_is c.args.slots.now types parts c.args.operands.now c.args.table.now h c.in-Named.a)))

pub returns-in-Next : goal.returns-in-Next
returns-in-Next c = λ types parts k h.
    rw c.in-Next.is
    (c.judge_next.ensures c.args.slots.now types (part_at parts c.in-Next.a) (rw c.at-in-Next.ensures (judged_is c.args.slots.now types parts c.args.operands.now c.args.table.now h c.in-Next.a))
    (ap (λ x. x.kind) (c.told_at-in-Next.ensures ∙ told_is c.args.slots.now types parts c.args.operands.now c.args.table.now h c.in-Next.a)))

pub returns-in_ok-noted-in-Apply : goal.returns-in_ok-noted-in-Apply
returns-in_ok-noted-in-Apply c = λ types parts k h.
    rw c.in-Apply.is
    (c.judge_apply.ensures c.args.slots.now types _
    (c.written_bounds.ensures ∙ ap written_bounds (c.last-in-Apply.ensures ∙ last_constants c.in-Apply.count parts c.args.constants.now k))
    (rw (c.last-in-Apply-2.ensures, c.as_slice.ensures.value, c.in_ok-noted-in-Apply.ensures) (last_tells c.args.slots.now types c.in-Apply.count parts c.args.operands.now c.args.table.now h)))

pub returns-in-Link : goal.returns-in-Link
returns-in-Link c = λ types parts k h.
    rw c.in-Link.is
    (c.judge_apply-in-Link.ensures c.args.slots.now types (part_at parts c.in-Link.a ∷ part_at parts c.in-Link.b ∷ [])
    (c.bounds_at.ensures ∙ ap written_bounds (two_constants parts c.args.constants.now c.in-Link.a c.in-Link.b k))
    (rw (c.told_at-in-Link.ensures, c.told_at-in-Link-2.ensures, c.at-in-Link.ensures, c.at-in-Link-2.ensures)
    (two_tell c.args.slots.now types parts c.args.operands.now c.args.table.now h c.in-Link.a c.in-Link.b)))
