-- What is made stands for the values so far, and as many bits are left as the types that are left have.
use Rattle.std.proofs.Common.{◌≡◌, ℕ, Bool, length, drop}
use Rattle.bit_graph.specs.Growth.{Extends}
use Rattle.bit_graph.specs.Meaning.{Consistent}
use Rattle.bit_arith.specs.Number.{AllStand, values_of}
use Rattle.bit_numbers.specs.Counts.{AllStandIn}
use Rattle.bit_states.specs.Values.{width_of_all}
use Rattle.bit_states.proofs.Edges.{Valued}
use Rattle.bit_states.proofs.slots.slot_values.Given as goal

abbrev pub invariant-loop-declared : goal.invariant-loop-declared
invariant-loop-declared l = record {
  extends : Extends l.initial.graph l.graph;
  stand : AllStandIn l.graph l.values.items;
  rest_stand : AllStand l.graph l.rest;
  width : length l.rest ≡ width_of_all (drop l.declared-index l.types);
  valued : (v : ℕ → Bool) → Consistent v l.graph → Valued v l.types (values_of v l.bits) l.values.items (drop l.declared-index l.types) (values_of v l.rest);
}
