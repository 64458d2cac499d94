-- The number of the bits from the i-th on.
use Rattle.std.proofs.Common.{◌≡◌, drop}
use Rattle.bit_arith.specs.Number.{number}
use Rattle.bit_values.proofs.coding.number.Given as goal

abbrev pub invariant-bits : goal.invariant-bits
invariant-bits l = l.value ≡ number (λ b. b) (drop l.i l.bits)
