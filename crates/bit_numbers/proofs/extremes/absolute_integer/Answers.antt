-- The opposite of an integer below 0, else itself.
use Rattle.std.proofs.Common.{length, ap, sym, cond, ◌∙◌}
use Rattle.bit_arith.specs.Number.{number_of}
use Rattle.bit_arith.specs.Words.{is_negative}
use Rattle.bit_operators.specs.Denoting.{integer_of}
use Rattle.bit_numbers.proofs.OfIntegers.{absolute_chosen}
use Rattle.bit_numbers.proofs.extremes.absolute_integer.Goals as goal

pub returns-clause-value : goal.returns-clause-value
returns-clause-value c = λ v h i j.
    let before = c.in_ok-size.ensures.extends.kept v h in
    let first = c.in_ok-opposite.ensures.extends.kept v before in
    let bits = c.args.bits.now in
    c.in_ok-size.ensures.value v h
    ∙ (λ t. cond (c.sign-negative.ensures.value v first t) (integer_of v (c.deref.ensures.value t)) (integer_of v bits))
    ∙ absolute_chosen (length bits) (number_of v bits) (is_negative (length bits) (number_of v bits)) (integer_of v c.in_ok-opposite.opposite.items) (λ t. is_negative (length bits) (number_of v bits)) i j
    (c.in_ok-opposite.ensures.value v before)
