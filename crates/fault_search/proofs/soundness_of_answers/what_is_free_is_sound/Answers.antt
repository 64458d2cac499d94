use Rattle.sound_check.proofs.Meeting.{sound_never_met}
use Rattle.fault_search.proofs.Answered.{free_sound}
use Rattle.fault_search.proofs.soundness_of_answers.what_is_free_is_sound.Goals as goal

pub returns-clause-sound : goal.returns-clause-sound
returns-clause-sound c = free_sound

pub returns-clause-never : goal.returns-clause-never
returns-clause-never c = λ questions parts free. sound_never_met questions parts (free_sound questions parts free)
