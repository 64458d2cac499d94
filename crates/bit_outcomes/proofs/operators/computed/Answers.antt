-- What the operator gives, or a fault of an operand or of its own.
use Rattle.bit_outcomes.proofs.OfOperands.{computed_told}
use Rattle.bit_outcomes.proofs.operators.computed.Goals as goal

pub returns-clause-told : goal.returns-clause-told
returns-clause-told c = λ place v x h a.
    let before = c.in_ok-either.ensures.extends.kept v h in
    computed_told v c.args.operator place c.args.fault c.in_ok-value.edge c.in_ok-either.either c.args.values.now c.in_ok-value.value (c.in_ok-either.ensures.value v h)
    (c.in_ok-value.ensures.value v before) x a
