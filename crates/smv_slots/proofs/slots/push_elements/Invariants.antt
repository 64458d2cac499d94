-- The elements so far.
use Rattle.std.proofs.Common.{◌≡◌, ◌++◌, map}
use Rattle.std.specs.List.{range_with_len}
use Rattle.smv_slots.specs.Slots.{element_at}
use Rattle.smv_slots.proofs.slots.push_elements.Given as goal

abbrev pub invariant-loop-element : goal.invariant-loop-element
invariant-loop-element l = l.slots ≡ l.initial.slots ++ map (element_at l.holder) (range_with_len 0 l.element)
