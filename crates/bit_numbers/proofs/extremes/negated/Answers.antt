-- Of words the opposite bits, of integers 0 less the integer.
use Rattle.bit_operators.specs.Denoting.{integer_of}
use Rattle.bit_numbers.proofs.OfOperators.{negated_discrete, negated_word}
use Rattle.bit_numbers.proofs.extremes.negated.Goals as goal

pub returns-in_ok-opposite-in-Word-clause-value : goal.returns-in_ok-opposite-in-Word-clause-value
returns-in_ok-opposite-in-Word-clause-value c = λ v h.
    negated_word v c.args.a.now c.in-Word.signed c.in-Word.bits c.as_slice.result.now c.in_ok-opposite-in-Word.opposite.items c.from_vec.result c.in-Word.is c.as_slice.ensures
    c.in_ok-opposite-in-Word.ensures.length (c.in_ok-opposite-in-Word.ensures.value v h) c.from_vec.ensures

pub returns-in_ok-number-in-Discrete-clause-value : goal.returns-in_ok-number-in-Discrete-clause-value
returns-in_ok-number-in-Discrete-clause-value c = λ v h.
    negated_discrete v c.args.a.now c.integer.result c.in-Discrete.d c.as_slice-in-Discrete.result.now (integer_of v c.in_ok-number-in-Discrete.number.items) c.in-Discrete.is
    c.as_slice-in-Discrete.ensures (c.integer.ensures.value v h) (c.in_ok-number-in-Discrete.ensures.value v h)
