-- The number of the bits from the i-th on.
use Rattle.std.proofs.Common.{◌≡◌, ◌-◌, ◌^◌, ◌<◌, ◌≤◌, ℕ, Bool, length, drop}
use Rattle.bit_graph.specs.Meaning.{Consistent}
use Rattle.bit_arith.specs.Number.{number_of}
use Rattle.bit_numbers.proofs.constants.known_number.Given as goal

abbrev pub invariant-bits : goal.invariant-bits
invariant-bits l = record {
  small : l.value < 2 ^ (length l.bits - l.i);
  value : (v : ℕ → Bool) → Consistent v l.graph → number_of v (drop l.i l.bits) ≡ l.value;
}
