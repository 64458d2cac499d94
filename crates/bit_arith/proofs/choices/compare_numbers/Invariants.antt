use Rattle.std.proofs.Common.{◌≡◌, ℕ, Bool, take}
use Rattle.std.specs.Prelude.{◌==◌, nat_lt}
use Rattle.bit_graph.specs.Growth.{Extends}
use Rattle.bit_graph.specs.Meaning.{edge_value, Consistent, Stands}
use Rattle.bit_arith.specs.Number.{number_of, AllStand}
use Rattle.bit_arith.proofs.choices.compare_numbers.Given as goal

abbrev pub invariant-bits : goal.invariant-bits
invariant-bits l = record {
  extends : Extends l.initial.graph l.graph;
  a_stand : AllStand l.graph l.a;
  b_stand : AllStand l.graph l.b;
  equal_stands : Stands l.graph l.equal;
  less_stands : Stands l.graph l.less;
  value : (v : ℕ → Bool) → Consistent v l.graph →
      (edge_value v l.equal ≡ (number_of v (take l.i l.a) == number_of v (take l.i l.b))) × (edge_value v l.less ≡ nat_lt (number_of v (take l.i l.a)) (number_of v (take l.i l.b)));
}
