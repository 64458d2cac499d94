use Rattle.std.proofs.Common.{◌≡◌, ◌^◌, ℕ, Bool, length, take}
use Rattle.bit_graph.specs.Growth.{Extends}
use Rattle.bit_graph.specs.Meaning.{edge_value, Consistent, Stands}
use Rattle.bit_arith.specs.Number.{number_of, AllStand}
use Rattle.bit_arith.specs.Words.{shifted}
use Rattle.bit_arith.proofs.Moves.{IsStep}
use Rattle.bit_arith.proofs.shifts.shift.Given as goal

abbrev pub invariant-bits : goal.invariant-bits
invariant-bits l = record {
  extends : Extends l.initial.graph l.graph;
  a_stand : AllStand l.graph l.a;
  amount_stand : AllStand l.graph l.amount;
  fill_stands : Stands l.graph l.fill;
  current_stand : AllStand l.graph l.current.items;
  count : length l.current.items ≡ length l.a;
  step : IsStep (length l.a) l.step (2 ^ l.j);
  value : (v : ℕ → Bool) → Consistent v l.graph →
      number_of v l.current.items ≡ shifted l.left (length l.a) (number_of v (take l.j l.amount)) (edge_value v l.fill) (number_of v l.a);
}
