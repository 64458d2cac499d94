-- The edges so far.
use Rattle.std.proofs.Common.{◌≡◌, take}
use Rattle.bit_system.specs.Conditions.{edges_of}
use Rattle.bit_system.proofs.framing.edges_of.Given as goal

abbrev pub invariant-loop-bit : goal.invariant-loop-bit
invariant-loop-bit l = l.edges.items ≡ edges_of (take l.bit-index l.bits)
