-- The size of the integer.
use Rattle.bit_operators.specs.Denoting.{integer_of}
use Rattle.bit_numbers.proofs.OfOperators.{absolute_discrete}
use Rattle.bit_numbers.proofs.extremes.absolute.Goals as goal

pub returns-in_ok-number-in-Discrete-clause-value : goal.returns-in_ok-number-in-Discrete-clause-value
returns-in_ok-number-in-Discrete-clause-value c = λ v h.
    absolute_discrete v c.args.a.now c.integer.result c.in-Discrete.d c.as_slice.result.now (integer_of v c.in_ok-number-in-Discrete.number.items) c.in-Discrete.is
    c.as_slice.ensures (c.integer.ensures.value v h) (c.in_ok-number-in-Discrete.ensures.value v h)
