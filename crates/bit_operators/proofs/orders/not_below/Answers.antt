-- The negation of the edge.
use Rattle.bit_operators.proofs.OfNumbers.{at_least, at_most}
use Rattle.bit_operators.proofs.orders.not_below.Goals as goal

pub returns-in-Some-clause-at_least : goal.returns-in-Some-clause-at_least
returns-in-Some-clause-at_least c = λ v h.
    at_least v c.args.a.now c.args.b.now c.in-Some.e c.negation.result c.negation.ensures ((rw c.in-Some.is at c.in_ok-below.ensures.less) v h)

pub returns-in-Some-clause-at_most : goal.returns-in-Some-clause-at_most
returns-in-Some-clause-at_most c = λ v h.
    at_most v c.args.a.now c.args.b.now c.in-Some.e c.negation.result c.negation.ensures ((rw c.in-Some.is at c.in_ok-below.ensures.greater) v h)
