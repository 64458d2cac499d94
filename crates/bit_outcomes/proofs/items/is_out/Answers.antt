-- A value, or integers.
use Rattle.bit_outcomes.proofs.OfAsked.{value_out}
use Rattle.bit_outcomes.proofs.items.is_out.Goals as goal

pub returns-in_ok-out-in-Value-clause-value : goal.returns-in_ok-out-in-Value-clause-value
returns-in_ok-out-in-Value-clause-value c = λ v h there.
    let before = c.in_ok-out-in-Value.ensures.extends.kept v h in
    value_out v c.args.declared.now c.args.member.now c.in-Value.value c.in_ok-within-in-Value.within c.negation.result c.in_ok-out-in-Value.out c.in-Value.is there
    (λ w d. c.in_ok-within-in-Value.ensures.value v w before d) c.negation.ensures (c.in_ok-out-in-Value.ensures.value v h)
