-- The width so far, and that of the types that are left.
use Rattle.std.proofs.Common.{◌≡◌, ◌≤◌, ◌+◌, drop}
use Rattle.bit_states.specs.Values.{width_of_all}
use Rattle.bit_states.proofs.types.width_of_all.Given as goal

abbrev pub invariant-loop-declared : goal.invariant-loop-declared
invariant-loop-declared l = record {
  small : l.total ≤ 65536;
  sum : l.total + width_of_all (drop l.declared-index l.types) ≡ width_of_all l.types;
}
