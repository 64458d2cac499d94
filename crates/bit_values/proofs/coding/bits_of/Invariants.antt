-- The bits so far, and those of the rest.
use Rattle.std.proofs.Common.{◌≡◌, ◌-◌, ◌++◌}
use Rattle.bit_values.specs.Bits.{bits_of}
use Rattle.bit_values.proofs.coding.bits_of.Given as goal

abbrev pub invariant-bits : goal.invariant-bits
invariant-bits l = bits_of l.width l.fn.number ≡ l.bits.items ++ bits_of (l.width - l.counter) l.rest
