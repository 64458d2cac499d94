-- The edges of the bits so far, and as many bits are left as the types that are left have.
use Rattle.std.proofs.Common.{◌≡◌, ◌++◌, ℕ, Bool, length, drop}
use Rattle.bit_graph.specs.Growth.{Extends}
use Rattle.bit_graph.specs.Meaning.{Consistent}
use Rattle.bit_arith.specs.Number.{AllStand, values_of}
use Rattle.bit_states.specs.Values.{width_of_all}
use Rattle.bit_faults.specs.Mending.{coded}
use Rattle.bit_faults.proofs.domains.domains_of.Given as goal

abbrev pub invariant-loop-declared : goal.invariant-loop-declared
invariant-loop-declared l = record {
  extends : Extends l.initial.graph l.graph;
  stand : AllStand l.graph l.made.items;
  rest_stand : AllStand l.graph l.rest;
  width : length l.rest ≡ width_of_all (drop l.declared-index l.types);
  value : (v : ℕ → Bool) → Consistent v l.graph → values_of v l.made.items ++ coded (drop l.declared-index l.types) (values_of v l.rest) ≡ coded l.types (values_of v l.bits);
}
