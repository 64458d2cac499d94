-- The values so far, and those of the bits that are left.
use Rattle.std.proofs.Common.{◌≡◌, ◌++◌, drop}
use Rattle.bit_states.specs.Values.{decoded_all}
use Rattle.bit_states.proofs.coding.decoded_all.Given as goal

abbrev pub invariant-loop-declared : goal.invariant-loop-declared
invariant-loop-declared l = l.values.items ++ decoded_all (drop l.declared-index l.types) l.rest ≡ decoded_all l.types l.bits
