-- What stands there and what is to come are all, and each that stands there is counted.
use Rattle.std.proofs.Common.{◌≡◌, ◌+◌, ◌++◌, drop}
use Rattle.smv_slots.specs.Slots.{indexed}
use Rattle.smv_slots.proofs.slots.indexed.Given as goal

abbrev pub invariant-loop-slot : goal.invariant-loop-slot
invariant-loop-slot l = record {
  whole : l.all ++ indexed l.held l.inputs (drop l.slot-index l.slots) ≡ indexed 0 0 l.slots;
  counted : l.held + l.inputs ≡ l.slot-index;
}
