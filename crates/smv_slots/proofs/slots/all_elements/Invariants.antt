-- The elements so far, and those of the pairs that are left.
use Rattle.std.proofs.Common.{◌≡◌, ◌++◌}
use Rattle.std.specs.List.{flat_map, zip}
use Rattle.smv_slots.specs.Slots.{elements_of}
use Rattle.smv_slots.proofs.slots.all_elements.Given as goal

abbrev pub invariant-loop-holder : goal.invariant-loop-holder
invariant-loop-holder l = l.slots ++ flat_map elements_of (zip l.holder-iterator.a.rest.now l.holder-iterator.b.rest.now) ≡ flat_map elements_of (zip l.holders l.types)
