-- One bit for the sign, and those of the size.
use Rattle.std.proofs.Common.{◌+◌, arith, sym, ap, pos, unsigned_abs, ◌∙◌}
use Rattle.std.specs.Prelude.{int_lt}
use Rattle.std.proofs.lemmas.Int.{to_z-of_z}
use mir.Syntax.{w64}
use Rattle.bit_values.proofs.Widths.{least_bits-le}
use Rattle.bit_numbers.proofs.OfIntegers.{size_below, width_of_negative, width_of_positive}
use Rattle.bit_numbers.proofs.constants.integer_width.Goals as goal

pub overflow_add-result : goal.overflow_add-result
overflow_add-result c = omega (arith, least_bits-le c.unsigned_abs.result 63 (omega arith), c.least_bits.ensures)

pub overflow_add-result-else-z-lt0 : goal.overflow_add-result-else-z-lt0
overflow_add-result-else-z-lt0 c = omega (arith, least_bits-le (c.unsigned_abs-else-z-lt0.result + 1) 64 (omega arith), c.least_bits-else-z-lt0.ensures)

pub returns-then-z-lt0-clause-within : goal.returns-then-z-lt0-clause-within
returns-then-z-lt0-clause-within c = omega (arith, least_bits-le c.unsigned_abs.result 63 (omega arith), c.least_bits.ensures)

pub returns-then-z-lt0-clause-fits : goal.returns-then-z-lt0-clause-fits
returns-then-z-lt0-clause-fits c = width_of_negative c.args.z c.unsigned_abs.result c.least_bits.result (sym (ap (λ x. int_lt x (pos 0)) (to_z-of_z w64 c.args.z c.ranges.z)) ∙ c.if-z-lt0.true) (c.unsigned_abs.ensures.value ∙ ap unsigned_abs (to_z-of_z w64 c.args.z c.ranges.z)) c.least_bits.ensures

pub returns-else-z-lt0-clause-within : goal.returns-else-z-lt0-clause-within
returns-else-z-lt0-clause-within c =
    omega (arith, least_bits-le (c.unsigned_abs-else-z-lt0.result + 1) 63 (size_below c.args.z c.unsigned_abs-else-z-lt0.result (sym (ap (λ x. int_lt x (pos 0)) (to_z-of_z w64 c.args.z c.ranges.z)) ∙ c.if-z-lt0.false) (c.unsigned_abs-else-z-lt0.ensures.value ∙ ap unsigned_abs (to_z-of_z w64 c.args.z c.ranges.z)) c.ranges.z), c.least_bits-else-z-lt0.ensures)

pub returns-else-z-lt0-clause-fits : goal.returns-else-z-lt0-clause-fits
returns-else-z-lt0-clause-fits c = width_of_positive c.args.z c.unsigned_abs-else-z-lt0.result c.least_bits-else-z-lt0.result (sym (ap (λ x. int_lt x (pos 0)) (to_z-of_z w64 c.args.z c.ranges.z)) ∙ c.if-z-lt0.false) (c.unsigned_abs-else-z-lt0.ensures.value ∙ ap unsigned_abs (to_z-of_z w64 c.args.z c.ranges.z)) c.least_bits-else-z-lt0.ensures
