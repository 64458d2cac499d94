-- An integer of the range.
use Rattle.std.proofs.Common.{◌+ℤ◌, rules, pos, sym, ap, ◌∙◌}
use Rattle.std.specs.Prelude.{int_le}
use mir.Syntax.{w32}
use mir.Val.{SFits}
use Rattle.value_types.specs.Codes.{value_at}
use Rattle.bit_arith.specs.Number.{number_of}
use Rattle.bit_operators.specs.Denoting.{integer_of}
use Rattle.bit_choices.proofs.OfRanges.{widened}
use Rattle.bit_choices.proofs.OfValues.{range_variable}
use Rattle.bit_choices.proofs.variables.variable.Goals as goal

pub returns-in_ok-number-in-Range-clause-value : goal.returns-in_ok-number-in-Range-clause-value
returns-in_ok-number-in-Range-clause-value c = λ v x h e.
    let f : SFits w32 c.in-Range.low = search rules in
    let g : SFits w32 c.in-Range.high = search rules in
    let low = widened c.from.result c.in-Range.low f c.from.ensures in
    let high = widened c.from-in-Range.result c.in-Range.high g c.from-in-Range.ensures in
    let n = number_of v c.args.bits.now in
    range_variable v c.in-Range.low c.in-Range.high (integer_of v c.in_ok-number-in-Range.number.items) c.args.bits.now c.integer.result x (c.integer.ensures.value v h)
    (λ q. c.in_ok-number-in-Range.ensures.value v h ((λ i. int_le (low i +ℤ pos n) (high i)) ∙ q) ∙ ap (λ y. y +ℤ pos n) low)
    (ap (λ t. value_at t n) (sym c.in-Range.is) ∙ e)
