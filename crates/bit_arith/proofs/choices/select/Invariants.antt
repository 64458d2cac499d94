use Rattle.std.proofs.Common.{◌≡◌, ℕ, Bool, length, take}
use Rattle.std.specs.Prelude.{if◌then◌else◌}
use Rattle.bit_graph.specs.Growth.{Extends}
use Rattle.bit_graph.specs.Meaning.{edge_value, Consistent, Stands}
use Rattle.bit_arith.specs.Number.{values_of, AllStand}
use Rattle.bit_arith.proofs.choices.select.Given as goal

abbrev pub invariant-bits : goal.invariant-bits
invariant-bits l = record {
  extends : Extends l.initial.graph l.graph;
  condition_stands : Stands l.graph l.condition;
  a_stand : AllStand l.graph l.a;
  b_stand : AllStand l.graph l.b;
  chosen_stand : AllStand l.graph l.chosen.items;
  count : length l.chosen.items ≡ l.i;
  value : (v : ℕ → Bool) → Consistent v l.graph → values_of v l.chosen.items ≡ (if edge_value v l.condition then values_of v (take l.i l.a) else values_of v (take l.i l.b));
}
