use Rattle.sound_check.proofs.Meeting.{sound_never_met}
use Rattle.sound_check.proofs.soundness_of_blocks.what_is_sound_is_never_met.Goals as goal

pub returns : goal.returns
returns c = sound_never_met
