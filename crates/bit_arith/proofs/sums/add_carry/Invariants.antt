use Rattle.std.proofs.Common.{◌≡◌, ◌+◌, ◌*◌, ◌^◌, ℕ, Bool, length, take}
use Rattle.bit_graph.specs.Growth.{Extends}
use Rattle.bit_graph.specs.Meaning.{edge_value, Consistent, Stands}
use Rattle.bit_arith.specs.Number.{bit, number_of, AllStand}
use Rattle.bit_arith.proofs.sums.add_carry.Given as goal

abbrev pub invariant-bits : goal.invariant-bits
invariant-bits l = record {
  extends : Extends l.initial.graph l.graph;
  a_stand : AllStand l.graph l.a;
  b_stand : AllStand l.graph l.b;
  sum_stand : AllStand l.graph l.sum.items;
  over_stands : Stands l.graph l.over;
  count : length l.sum.items ≡ l.i;
  value : (v : ℕ → Bool) → Consistent v l.graph → number_of v l.sum.items + 2 ^ l.i * bit (edge_value v l.over) ≡ number_of v (take l.i l.a) + number_of v (take l.i l.b) + bit (edge_value v l.fn.carry);
}
