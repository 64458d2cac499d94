-- In bits enough for both, and then in as many as the result needs.
use Rattle.std.proofs.Common.{◌+◌, length, ap, ◌∙◌}
use Rattle.smv_value.specs.Results.{number_of_word, low_bits}
use Rattle.bit_arith.specs.Number.{number_of}
use Rattle.bit_operators.specs.Denoting.{integer_of}
use Rattle.bit_operators.specs.Integers.{bounded}
use Rattle.bit_numbers.proofs.OfQuotients.{divided_integer_is, in_few_bits}
use Rattle.bit_numbers.proofs.division.divided_integer.Goals as goal

pub returns-clause-value : goal.returns-clause-value
returns-clause-value c = λ v h ix iy some iz.
    let before = c.in_ok-whole.ensures.extends.kept v h in
    in_few_bits v c.args.o c.args.a.now c.args.b.now c.in_ok-whole.whole.items c.in_ok-made.made.items c.result_width.result c.result_width.ensures c.in_ok-made.ensures.length
    (c.in_ok-made.ensures.value v h ∙ ap (λ l. low_bits c.result_width.result (integer_of v l)) c.deref-3.ensures.value)
    (divided_integer_is v c.args.o c.args.a.now c.args.b.now c.deref.result.now c.deref-2.result.now c.in_ok-whole.whole.items c.bounded-width.result
    (c.bounded-width.ensures ∙ ap (λ n. bounded (n + 1)) c.max.ensures)
    (ap length c.deref.ensures.value ∙ c.in_ok-left.ensures.length) (ap length c.deref-2.ensures.value ∙ c.in_ok-right.ensures.length)
    (c.in_ok-whole.ensures.length ∙ ap length c.deref.ensures.value ∙ c.in_ok-left.ensures.length)
    (ap (number_of v) c.deref.ensures.value ∙ c.in_ok-left.ensures.value v before) (ap (number_of v) c.deref-2.ensures.value ∙ c.in_ok-right.ensures.value v before)
    (λ z. c.in_ok-whole.ensures.value v h z) ix iy some iz) some iz
