-- The slots of a state so far.
use Rattle.std.proofs.Common.{◌≡◌, not, take}
use Rattle.std.specs.List.{filter}
use Rattle.smv_slots.specs.declared.slot.Slot.{Slot}
use Rattle.smv_slots.specs.Slots.{is_input}
use Rattle.smv_meaning.proofs.readers.state_slots.Given as goal

abbrev pub invariant-loop-slot : goal.invariant-loop-slot
invariant-loop-slot l = l.found.items ≡ filter (λ (slot : Slot). not (is_input slot.kind)) (take l.slot-index l.slots)
