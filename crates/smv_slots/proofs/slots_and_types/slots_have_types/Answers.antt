-- The law of all programs.
use Rattle.smv_slots.proofs.Counted.{counted, numbered}
use Rattle.smv_slots.proofs.slots_and_types.slots_have_types.Goals as goal

pub returns : goal.returns
returns c = record { counted = counted; numbered = numbered }
