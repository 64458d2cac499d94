-- The law of all programs.
use Rattle.smv_slots.proofs.Standing.{names_lead_to_slots}
use Rattle.smv_slots.proofs.slots_and_types.names_lead_to_slots.Goals as goal

pub returns : goal.returns
returns c = names_lead_to_slots
