-- The types so far.
use Rattle.std.proofs.Common.{◌≡◌, map, take}
use Rattle.bit_states.specs.Layouts.{type_of_slot}
use Rattle.bit_states.proofs.types.types_of_slots.Given as goal

abbrev pub invariant-loop-slot : goal.invariant-loop-slot
invariant-loop-slot l = l.made.items ≡ map (type_of_slot l.types) (take l.slot-index l.slots)
