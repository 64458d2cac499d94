-- A power past 128 bits is past each number.
use Rattle.std.proofs.Common.{arith}
use Rattle.bit_numbers.proofs.OfIntegers.{too_wide}
use Rattle.bit_numbers.proofs.comparing.reaches.Goals as goal

pub returns-else-width-lt128 : goal.returns-else-width-lt128
returns-else-width-lt128 c = (λ h. absurd (grind arith), λ h. absurd (too_wide c.args.width c.args.n (omega arith) (omega arith) h))
