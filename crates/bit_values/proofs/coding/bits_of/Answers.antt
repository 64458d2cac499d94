-- One bit more.
use Rattle.std.proofs.Common.{arith}
use Rattle.bit_values.specs.Bits.{bits_of}
use Rattle.bit_values.proofs.Numbers.{bits_next}
use Rattle.bit_values.proofs.coding.bits_of.Goals as goal

pub bits-preserved : goal.bits-preserved
bits-preserved c =
    rw c.in_ok-push.ensures.items
    (bits_next (bits_of c.args.width c.args.number) c.bits.bits.items c.args.width c.bits.counter c.bits.rest (omega arith) c.bits.invariant)
