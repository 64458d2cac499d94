-- The faults of the nodes so far.
use Rattle.std.proofs.Common.{◌≡◌, List, [], map, take}
use Rattle.smv_value.specs.declared.value.Value.{Value}
use Rattle.smv_slots.specs.declared.slot.Slot.{Slot}
use Rattle.smv_resolve.specs.Resolved.{parts_of}
use Rattle.smv_meaning.specs.Formulas.{formula_fault}
use Rattle.smv_meaning.specs.Tables.{outcomes_of}
use Rattle.smv_meaning.proofs.item_faults.formula_faults.Given as goal

abbrev pub invariant-loop-i : goal.invariant-loop-i
invariant-loop-i l = (slots : List Slot) (s u : List Value) → l.here ≡ outcomes_of slots s u [] l.nodes
    → l.made.items ≡ map (formula_fault slots s u) (parts_of (take l.i l.nodes))
