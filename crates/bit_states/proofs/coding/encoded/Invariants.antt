-- The bits so far, and those of the values that are left.
use Rattle.std.proofs.Common.{◌≡◌, ◌++◌, drop}
use Rattle.bit_states.specs.Values.{encoded_all}
use Rattle.bit_states.proofs.coding.encoded.Given as goal

abbrev pub invariant-loop-i : goal.invariant-loop-i
invariant-loop-i l = l.bits.items ++ encoded_all (drop l.i l.types) (drop l.i l.values) ≡ encoded_all l.types l.values
