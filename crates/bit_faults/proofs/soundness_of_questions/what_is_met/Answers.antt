-- The law of all programs.
use Rattle.bit_faults.proofs.Asking.{one_met}
use Rattle.bit_faults.proofs.soundness_of_questions.what_is_met.Goals as goal

pub returns : goal.returns
returns c = one_met
