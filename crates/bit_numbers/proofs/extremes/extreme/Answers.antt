-- Two integers.
use Rattle.bit_operators.specs.Denoting.{integer_of}
use Rattle.bit_numbers.specs.Extremes.{extreme}
use Rattle.bit_numbers.proofs.OfOperators.{integers_two}
use Rattle.bit_numbers.proofs.extremes.extreme.Goals as goal

pub returns-in_ok-number-in-Discrete-Discrete-clause-value : goal.returns-in_ok-number-in-Discrete-Discrete-clause-value
returns-in_ok-number-in-Discrete-Discrete-clause-value c = λ v h.
    integers_two v (extreme c.args.greatest) c.args.a.now c.args.b.now c.integer.result c.in-Discrete-Discrete.x c.in-Discrete-Discrete.y c.as_slice.result.now c.as_slice-in-Discrete-Discrete.result.now
    (integer_of v c.in_ok-number-in-Discrete-Discrete.number.items) c.in-Discrete-Discrete.is-0 c.in-Discrete-Discrete.is-1 c.as_slice.ensures c.as_slice-in-Discrete-Discrete.ensures
    (c.integer.ensures.value v h) (c.in_ok-number-in-Discrete-Discrete.ensures.value v h)
