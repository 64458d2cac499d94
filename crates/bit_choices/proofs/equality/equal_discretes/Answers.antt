-- Two symbols, or two integers.
use Rattle.std.proofs.Common.{sym, ap, ◌∙◌, ◌&&◌}
use Rattle.std.specs.Prelude.{int_le, slice_get}
use Rattle.bit_arith.specs.Number.{number_of}
use Rattle.bit_operators.specs.Denoting.{integer_of}
use Rattle.bit_choices.proofs.OfValues.{same_discretes}
use Rattle.bit_choices.proofs.equality.equal_discretes.Goals as goal

pub returns-clause-value : goal.returns-clause-value
returns-clause-value c = λ v p q h ep eq.
    let fourth = c.in_ok-equal.ensures.extends.kept v h in
    let third = c.in_ok-integer.ensures.extends.kept v fourth in
    let second = c.in_ok-symbol.ensures.extends.kept v third in
    let first = c.in_ok-numbers.ensures.extends.kept v second in
    same_discretes v c.args.x.now c.args.y.now p q c.in_ok-symbols.symbols c.in_ok-numbers.numbers c.in_ok-symbol.symbol c.in_ok-integer.integer c.negation.result c.in_ok-equal.equal
    (λ s t es et.
    c.in_ok-symbols.ensures.value v s t first ((λ i. slice_get (c.as_slice.ensures i) (number_of v (c.as_slice-2.ensures i))) ∙ es) ((λ i. slice_get (c.as_slice-3.ensures i) (number_of v (c.as_slice-4.ensures i))) ∙ et))
    (c.in_ok-numbers.ensures.value v second
    ∙ (λ i. int_le (integer_of v (c.as_slice-5.ensures i)) (integer_of v (c.as_slice-6.ensures i)) && int_le (integer_of v (c.as_slice-6.ensures i)) (integer_of v (c.as_slice-5.ensures i))))
    (c.in_ok-symbol.ensures.value v third) c.negation.ensures (c.in_ok-integer.ensures.value v fourth) (c.in_ok-equal.ensures.value v h) ep eq
