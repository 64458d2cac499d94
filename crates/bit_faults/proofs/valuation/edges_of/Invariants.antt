-- The edges so far.
use Rattle.std.proofs.Common.{◌≡◌, take}
use Rattle.bit_faults.specs.Valuations.{edges_of}
use Rattle.bit_faults.proofs.valuation.edges_of.Given as goal

abbrev pub invariant-loop-bit : goal.invariant-loop-bit
invariant-loop-bit l = l.made ≡ edges_of (take l.bit-index l.bits)
