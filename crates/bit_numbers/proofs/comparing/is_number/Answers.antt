-- None of so many bits, or these bits.
use Rattle.std.proofs.Common.{◌∙◌}
use Rattle.bit_numbers.proofs.OfIntegers.{no_number}
use Rattle.bit_numbers.proofs.comparing.is_number.Goals as goal

pub returns-then-reaches-clause-value : goal.returns-then-reaches-clause-value
returns-then-reaches-clause-value c = λ v h. c.constant.ensures.value v h ∙ no_number v c.args.bits.now c.args.n (c.reaches.ensures.0 c.if-reaches.true)
