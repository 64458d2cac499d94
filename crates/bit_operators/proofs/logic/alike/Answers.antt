-- One and not the negation of the other alone.
use Rattle.bit_operators.proofs.OfLogic.{alike_is}
use Rattle.bit_operators.proofs.logic.alike.Goals as goal

pub returns-clause-value : goal.returns-clause-value
returns-clause-value c = λ v h. alike_is v c.args.a c.args.b c.negation.result c.in_ok-e.e c.negation.ensures (c.in_ok-e.ensures.value v h)
