-- Whether the bits so far are equal.
use Rattle.std.proofs.Common.{◌≡◌, ℕ, Bool, take}
use Rattle.std.specs.Prelude.{◌==◌}
use Rattle.bit_graph.specs.Growth.{Extends}
use Rattle.bit_graph.specs.Meaning.{Consistent, Stands, edge_value}
use Rattle.bit_arith.specs.Number.{AllStand, number_of}
use Rattle.bit_numbers.proofs.comparing.equal_bits.Given as goal

abbrev pub invariant-bits : goal.invariant-bits
invariant-bits l = record {
  extends : Extends l.initial.graph l.graph;
  a_stand : AllStand l.graph l.a;
  b_stand : AllStand l.graph l.b;
  stands : Stands l.graph l.equal;
  value : (v : ℕ → Bool) → Consistent v l.graph → edge_value v l.equal ≡ (number_of v (take l.i l.a) == number_of v (take l.i l.b));
}
