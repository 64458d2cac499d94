-- An operator that takes one value of each operand.
use Rattle.smv_meaning.proofs.Operating.{applied_by}
use Rattle.smv_meaning.proofs.operators.applied.Goals as goal

pub returns-in_default : goal.returns-in_default
returns-in_default c =
    applied_by c.operated.result c.args.operator c.args.place c.args.operands.now c.in_default.not-Choice c.in_default.not-Members c.in_default.not-Union c.in_default.not-Range
    c.in_default.not-In c.operated.ensures
