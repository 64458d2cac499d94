-- Not the first, or the second.
use Rattle.bit_operators.proofs.OfLogic.{implied_is}
use Rattle.bit_operators.proofs.logic.implied.Goals as goal

pub returns-clause-value : goal.returns-clause-value
returns-clause-value c = λ v h. implied_is v c.args.a c.args.b c.negation.result c.in_ok-e.e c.negation.ensures (c.in_ok-e.ensures.value v h)
