-- The types so far.
use Rattle.std.proofs.Common.{◌≡◌, take}
use Rattle.std.specs.List.{flat_map}
use Rattle.smv_slots.specs.Slots.{types_with}
use Rattle.smv_slots.proofs.types.slot_types.Given as goal

abbrev pub invariant-loop-declared : goal.invariant-loop-declared
invariant-loop-declared l = l.types ≡ flat_map types_with (take l.declared-index l.variables)
