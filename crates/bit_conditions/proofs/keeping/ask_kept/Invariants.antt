-- The frozen slots so far are asked to keep their values, and as many bits are left as the types that are left have.
use Rattle.std.proofs.Common.{◌≡◌, ℕ, Bool, length, drop, true}
use Rattle.bit_graph.specs.Meaning.{Consistent}
use Rattle.bit_arith.specs.Number.{AllStand, values_of}
use Rattle.bit_clauses.specs.Asserted.{EithersStand, all_hold}
use Rattle.bit_states.specs.Values.{are_codes, width_of_all}
use Rattle.bit_conditions.proofs.OfBits.{Kept}
use Rattle.bit_conditions.proofs.keeping.ask_kept.Given as goal

abbrev pub invariant-loop-i : goal.invariant-loop-i
invariant-loop-i l = record {
  first_stand : AllStand l.graph l.first;
  second_stand : AllStand l.graph l.second;
  first_width : length l.first ≡ width_of_all (drop l.i l.types);
  second_width : length l.second ≡ width_of_all (drop l.i l.types);
  stand : EithersStand l.graph l.asked.items;
  holds : (v : ℕ → Bool) → Consistent v l.graph → are_codes l.types (values_of v l.bits) ≡ true → are_codes l.types (values_of v l.next) ≡ true →
      Kept l.slots l.types (values_of v l.bits) (values_of v l.next) (all_hold v l.initial.asked.items) (all_hold v l.asked.items) l.i (values_of v l.first) (values_of v l.second);
}
