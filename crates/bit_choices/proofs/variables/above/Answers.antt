-- The first of the range, and the code.
use Rattle.std.proofs.Common.{◌+◌, ◌%◌, ◌^◌, length, max, sym, ap, ◌∙◌}
use Rattle.std.proofs.lemmas.Int.{to_z-of_z}
use mir.Syntax.{w64}
use Rattle.bit_arith.specs.Number.{number_of}
use Rattle.bit_operators.specs.Denoting.{integer_of}
use Rattle.bit_operators.specs.Integers.{fits}
use Rattle.smv_value.specs.Results.{low_bits}
use Rattle.bit_choices.proofs.OfRanges.{above_low}
use Rattle.bit_choices.proofs.variables.above.Goals as goal

pub returns-clause-value : goal.returns-clause-value
returns-clause-value c = λ v h e.
    let before = c.in_ok-sum.ensures.extends.kept v h in
    let low = to_z-of_z w64 c.args.low c.ranges.low in
    let high = to_z-of_z w64 c.args.high c.ranges.high in
    let left = ap length c.deref-2.ensures.value ∙ c.in_ok-left.ensures.length in
    above_low v c.args.bits.now c.deref.result.now c.deref-2.result.now c.deref-3.result.now c.in_ok-sum.sum.items c.args.low c.args.high c.integer_width.result c.integer_width-2.result c.max-width.result
    (sym (ap (fits c.integer_width.result) low) ∙ c.integer_width.ensures.fits) (sym (ap (fits c.integer_width-2.result) high) ∙ c.integer_width-2.ensures.fits) c.max-width.ensures left
    c.in_ok-sum.ensures.length (ap (integer_of v) c.deref.ensures.value ∙ c.in_ok-start.ensures.value v before ∙ low)
    (ap (number_of v) c.deref-2.ensures.value ∙ c.in_ok-left.ensures.value v before) (ap (number_of v) c.deref-3.ensures.value ∙ c.in_ok-right.ensures.value v before) (c.in_ok-sum.ensures.value v h) e
