-- The law of all programs.
use Rattle.smv_slots.proofs.Kept.{types_kept}
use Rattle.smv_slots.proofs.slots_and_types.types_are_types.Goals as goal

pub returns : goal.returns
returns c = types_kept
