-- The constant of a node follows from those of its parts.
use Rattle.std.proofs.Common.{◌∙◌, ap}
use Rattle.smv_declared.specs.Constants.{operated}
use Rattle.smv_declared.proofs.Found.{found_at, operated_last, operated_two, told_as}
use Rattle.smv_declared.proofs.constants.constant_by.Goals as goal

pub returns-in-Named : goal.returns-in-Named
returns-in-Named c = λ parts told. rw c.in-Named.is (told_as c.copy_at.result _ _ c.copy_at.ensures (found_at parts c.args.table.now c.in-Named.a told))

pub returns-in-Operand : goal.returns-in-Operand
returns-in-Operand c = λ parts told. rw c.in-Operand.is (told_as c.copy_at-in-Operand.result _ _ c.copy_at-in-Operand.ensures (found_at parts c.args.table.now c.in-Operand.a told))

pub returns-in-Apply : goal.returns-in-Apply
returns-in-Apply c = λ parts told.
    rw c.in-Apply.is
    (told_as c.operated.result _ _ c.operated.ensures
    (ap (operated c.in-Apply.operator) c.last.ensures ∙ operated_last c.in-Apply.operator c.in-Apply.count parts c.args.table.now told))

pub returns-in-Link : goal.returns-in-Link
returns-in-Link c = λ parts told.
    rw c.in-Link.is
    (told_as c.linked.result _ _ c.linked.ensures
    (operated_two c.in-Link.operator parts c.in-Link.a c.in-Link.b _ _ (found_at parts c.args.table.now c.in-Link.a told) (found_at parts c.args.table.now c.in-Link.b told)))
