-- The edge is true where the bits so far are those of values, and as many bits are left as the types that are left
-- have.
use Rattle.std.proofs.Common.{◌≡◌, ◌&&◌, ℕ, Bool, length, drop}
use Rattle.bit_graph.specs.Growth.{Extends}
use Rattle.bit_graph.specs.Meaning.{Consistent, Stands, edge_value}
use Rattle.bit_arith.specs.Number.{AllStand, values_of}
use Rattle.bit_states.specs.Values.{are_codes, width_of_all}
use Rattle.bit_states.proofs.slots.domain_edge.Given as goal

abbrev pub invariant-loop-declared : goal.invariant-loop-declared
invariant-loop-declared l = record {
  extends : Extends l.initial.graph l.graph;
  stands : Stands l.graph l.all;
  rest_stand : AllStand l.graph l.rest;
  width : length l.rest ≡ width_of_all (drop l.declared-index l.types);
  value : (v : ℕ → Bool) → Consistent v l.graph → (edge_value v l.all && are_codes (drop l.declared-index l.types) (values_of v l.rest)) ≡ are_codes l.types (values_of v l.bits);
}
