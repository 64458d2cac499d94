-- Each operator by its operands.
use Rattle.smv_value.specs.declared.operator.Operator.TheVariants as operator
use Rattle.smv_meaning.specs.Outcomes.{included, ranged, two, united}
use Rattle.std.proofs.Common.{[]}
use Rattle.bit_outcomes.proofs.OfTable.{anywhere, by_rule, other_told, told_of}
use Rattle.bit_outcomes.proofs.operators.applied.Goals as goal

pub returns-in-Choice-clause-told : goal.returns-in-Choice-clause-told
returns-in-Choice-clause-told c =
    told_of c.choice.result c.choice.new.graph c.args.operands.now c.args.operator (operator.Choice c.in-Choice.field-0) c.in-Choice.is
    (by_rule c.choice.result c.choice.new.graph c.args.operands.now c.in-Choice.field-0 c.choice.ensures.told)

pub returns-in-Members-clause-told : goal.returns-in-Members-clause-told
returns-in-Members-clause-told c =
    told_of c.united.result c.united.new.graph c.args.operands.now c.args.operator operator.Members c.in-Members.is
    (anywhere c.united.result c.united.new.graph c.args.operands.now (united []) c.united.ensures.told)

pub returns-in-Union-clause-told : goal.returns-in-Union-clause-told
returns-in-Union-clause-told c =
    told_of c.united-in-Union.result c.united-in-Union.new.graph c.args.operands.now c.args.operator operator.Union c.in-Union.is
    (anywhere c.united-in-Union.result c.united-in-Union.new.graph c.args.operands.now (united []) c.united-in-Union.ensures.told)

pub returns-in-Range-clause-told : goal.returns-in-Range-clause-told
returns-in-Range-clause-told c =
    told_of c.range.result c.range.new.graph c.args.operands.now c.args.operator operator.Range c.in-Range.is
    (anywhere c.range.result c.range.new.graph c.args.operands.now (two ranged) c.range.ensures.told)

pub returns-in-In-clause-told : goal.returns-in-In-clause-told
returns-in-In-clause-told c =
    told_of c.inclusion.result c.inclusion.new.graph c.args.operands.now c.args.operator operator.In c.in-In.is
    (anywhere c.inclusion.result c.inclusion.new.graph c.args.operands.now (two included) c.inclusion.ensures.told)

pub returns-in_default-clause-told : goal.returns-in_default-clause-told
returns-in_default-clause-told c =
    other_told c.operated.result c.operated.new.graph c.args.operands.now c.args.operator c.in_default.not-Choice c.in_default.not-Members c.in_default.not-Union c.in_default.not-Range
    c.in_default.not-In c.operated.ensures.told
