-- That the bits so far are the same is asked.
use Rattle.std.proofs.Common.{◌≡◌, ℕ, Bool, ◌&&◌, drop}
use Rattle.bit_graph.specs.Meaning.{Consistent}
use Rattle.bit_arith.specs.Number.{values_of}
use Rattle.bit_clauses.specs.Asserted.{EithersStand, all_hold}
use Rattle.bit_conditions.specs.Keeping.{are_same}
use Rattle.bit_conditions.proofs.keeping.ask_same_bits.Given as goal

abbrev pub invariant-loop-i : goal.invariant-loop-i
invariant-loop-i l = record {
  stand : EithersStand l.graph l.asked.items;
  holds : (v : ℕ → Bool) → Consistent v l.graph →
      (all_hold v l.asked.items && are_same (drop l.i (values_of v l.a)) (drop l.i (values_of v l.b))) ≡ (all_hold v l.initial.asked.items && are_same (values_of v l.a) (values_of v l.b));
}
