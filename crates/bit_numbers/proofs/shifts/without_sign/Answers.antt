-- One bit more, which is not set.
use Rattle.bit_numbers.proofs.OfIntegers.{unsigned_integer}
use Rattle.bit_numbers.proofs.shifts.without_sign.Goals as goal

pub returns-clause-value : goal.returns-clause-value
returns-clause-value c = λ v h. unsigned_integer v c.args.bits.now c.in_ok-amount.amount.items c.in_ok-amount.ensures.length (c.in_ok-amount.ensures.value v h)
