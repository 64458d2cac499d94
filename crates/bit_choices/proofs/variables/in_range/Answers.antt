-- Nothing to add, or the first of the range.
use Rattle.std.proofs.Common.{sym, ◌∙◌}
use Rattle.std.proofs.lemmas.Int.{to_z-of_z}
use mir.Syntax.{w64}
use Rattle.bit_arith.specs.Number.{number_of}
use Rattle.bit_operators.specs.Denoting.{integer_of}
use Rattle.bit_numbers.proofs.OfIntegers.{unsigned_integer}
use Rattle.bit_choices.proofs.OfRanges.{at_zero}
use Rattle.bit_choices.proofs.variables.in_range.Goals as goal

pub returns-in_ok-number-clause-value : goal.returns-in_ok-number-clause-value
returns-in_ok-number-clause-value c = λ v h e.
    at_zero c.args.low (number_of v c.args.bits.now) (integer_of v c.in_ok-number.number.items) (sym (to_z-of_z w64 c.args.low c.ranges.low) ∙ c.is_zero.ensures c.if-is_zero.true)
    (unsigned_integer v c.args.bits.now c.in_ok-number.number.items c.in_ok-number.ensures.length (c.in_ok-number.ensures.value v h))
