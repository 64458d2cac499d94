-- The bits so far.
use Rattle.std.proofs.Common.{◌≡◌, ℕ, Bool, length, take}
use Rattle.smv_value.specs.Results.{logic_truth}
use Rattle.bit_graph.specs.Growth.{Extends}
use Rattle.bit_graph.specs.Meaning.{Consistent}
use Rattle.bit_arith.specs.Number.{AllStand, values_of}
use Rattle.bit_operators.specs.Lists.{bit_by_bit}
use Rattle.bit_operators.proofs.logic.joined_bits.Given as goal

abbrev pub invariant-bits : goal.invariant-bits
invariant-bits l = record {
  extends : Extends l.initial.graph l.graph;
  a_stand : AllStand l.graph l.a;
  b_stand : AllStand l.graph l.b;
  stand : AllStand l.graph l.bits.items;
  count : length l.bits.items ≡ l.i;
  value : (v : ℕ → Bool) → Consistent v l.graph → values_of v l.bits.items ≡ bit_by_bit (logic_truth l.o) (values_of v (take l.i l.a)) (values_of v (take l.i l.b));
}
