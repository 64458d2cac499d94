use Rattle.std.proofs.Common.{◌≡◌, ◌*◌, ◌^◌, ◌%◌, ℕ, Bool, length, drop, false}
use Rattle.bit_graph.specs.Growth.{Extends}
use Rattle.bit_graph.specs.Meaning.{edge_value, Consistent, Stands}
use Rattle.bit_arith.specs.Number.{number_of, AllStand}
use Rattle.bit_arith.proofs.products.multiply.Given as goal

abbrev pub invariant-bits : goal.invariant-bits
invariant-bits l = record {
  extends : Extends l.initial.graph l.graph;
  a_stand : AllStand l.graph l.a;
  b_stand : AllStand l.graph l.b;
  product_stand : AllStand l.graph l.product.items;
  zero_stands : Stands l.graph l.zero;
  zero_is : (v : ℕ → Bool) → Consistent v l.graph → edge_value v l.zero ≡ false;
  count : length l.product.items ≡ length l.a;
  value : (v : ℕ → Bool) → Consistent v l.graph → number_of v l.product.items ≡ (number_of v l.a * number_of v (drop l.i l.b)) % 2 ^ length l.a;
}
