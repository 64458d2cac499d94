-- Two integers.
use Rattle.bit_operators.specs.Denoting.{integer_of}
use Rattle.bit_numbers.proofs.OfOperators.{integers_divided}
use Rattle.bit_numbers.proofs.division.divided.Goals as goal

pub returns-in_ok-made-in-Discrete-Discrete-clause-value : goal.returns-in_ok-made-in-Discrete-Discrete-clause-value
returns-in_ok-made-in-Discrete-Discrete-clause-value c = λ v h.
    integers_divided v c.args.o c.args.a.now c.args.b.now c.integer-result.result c.in-Discrete-Discrete.x c.in-Discrete-Discrete.y c.as_slice-in-Discrete-Discrete.result.now
    c.as_slice-in-Discrete-Discrete-2.result.now (integer_of v c.in_ok-made-in-Discrete-Discrete.made.items) c.in_ok-zero-in-Discrete-Discrete.zero c.in-Discrete-Discrete.is-0 c.in-Discrete-Discrete.is-1
    c.as_slice-in-Discrete-Discrete.ensures c.as_slice-in-Discrete-Discrete-2.ensures (c.integer-result.ensures.value v h)
    (λ y q. c.in_ok-zero-in-Discrete-Discrete.ensures.value v y (c.in_ok-made-in-Discrete-Discrete.ensures.extends.kept v h) q) (c.in_ok-made-in-Discrete-Discrete.ensures.value v h)
