-- One bit, and no other.
use Rattle.std.proofs.Common.{◌∙◌}
use Rattle.bit_numbers.proofs.OfCounts.{number_of_one}
use Rattle.bit_numbers.proofs.counting.one_bit.Goals as goal

pub returns-clause-value : goal.returns-clause-value
returns-clause-value c = λ v h. c.in_ok-bits.ensures.value v h ∙ number_of_one v c.args.e c.args.width c.requires.some
