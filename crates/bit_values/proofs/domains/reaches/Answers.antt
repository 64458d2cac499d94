-- A power past 64 bits is past each limit.
use Rattle.std.proofs.Common.{arith}
use Rattle.bit_values.proofs.Widths.{too_wide}
use Rattle.bit_values.proofs.domains.reaches.Goals as goal

pub returns-else-width-lt64 : goal.returns-else-width-lt64
returns-else-width-lt64 c = (λ h. absurd (grind arith), λ h. absurd (too_wide c.args.width c.args.limit (omega arith) (omega arith) h))
