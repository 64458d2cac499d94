use Rattle.std.proofs.Common.{◌≡◌, ◌+◌, ◌-◌, ◌*◌, ◌^◌, ◌<◌, ℕ, Bool, length, drop}
use Rattle.bit_graph.specs.Growth.{Extends}
use Rattle.bit_graph.specs.Meaning.{Consistent}
use Rattle.bit_arith.specs.Number.{number_of, AllStand}
use Rattle.bit_arith.proofs.quotients.divide_numbers.Given as goal

abbrev pub invariant-bits : goal.invariant-bits
invariant-bits l = record {
  extends : Extends l.initial.graph l.graph;
  a_stand : AllStand l.graph l.a;
  divisor_stand : AllStand l.graph l.divisor.items;
  quotient_stand : AllStand l.graph l.quotient.items;
  rest_stand : AllStand l.graph l.rest.items;
  count : length l.quotient.items ≡ length l.a;
  rest_count : length l.rest.items ≡ length l.a;
  value : (v : ℕ → Bool) → Consistent v l.graph → 0 < number_of v l.b →
      (number_of v (drop l.i l.a) ≡ number_of v (drop l.i l.quotient.items) * number_of v l.b + number_of v l.rest.items) × (number_of v l.rest.items < number_of v l.b);
  by_zero : (v : ℕ → Bool) → Consistent v l.graph → number_of v l.b ≡ 0 →
      (number_of v (drop l.i l.quotient.items) + 1 ≡ 2 ^ (length l.a - l.i)) × (number_of v l.rest.items ≡ number_of v (drop l.i l.a));
}
