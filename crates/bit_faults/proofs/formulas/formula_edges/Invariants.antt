-- The edges of the nodes so far.
use Rattle.std.proofs.Common.{ℕ, Bool, List, [], take}
use Rattle.bit_graph.specs.Growth.{Extends}
use Rattle.bit_graph.specs.Meaning.{Consistent}
use Rattle.smv_value.specs.declared.value.Value.{Value}
use Rattle.smv_slots.specs.declared.slot.Slot.{Slot}
use Rattle.smv_resolve.specs.Resolved.{parts_of}
use Rattle.smv_meaning.specs.Tables.{outcomes_of}
use Rattle.bit_outcomes.specs.Telling.{AllTold, TellsAll}
use Rattle.bit_faults.specs.Formulas.{AllStandIfAny, TellsFormulas}
use Rattle.bit_faults.proofs.formulas.formula_edges.Given as goal

abbrev pub invariant-loop-i : goal.invariant-loop-i
invariant-loop-i l = record {
  extends : Extends l.initial.graph l.graph;
  here : AllTold l.graph l.here;
  stand : AllStandIfAny l.graph l.made;
  told : (v : ℕ → Bool) (slots : List Slot) (s u : List Value) → Consistent v l.graph → TellsAll v l.here (outcomes_of slots s u [] l.nodes) →
      TellsFormulas v slots s u l.made (parts_of (take l.i l.nodes));
}
