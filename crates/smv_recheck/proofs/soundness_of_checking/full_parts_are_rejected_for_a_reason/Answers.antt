use Rattle.smv_recheck.proofs.Full.{has_reason}
use Rattle.smv_recheck.proofs.soundness_of_checking.full_parts_are_rejected_for_a_reason.Goals as goal

pub returns : goal.returns
returns c = λ p spec sys cert part log full stands fails. has_reason p spec sys cert stands part log full fails
