use Rattle.smv_recheck.proofs.Full.{has_fault}
use Rattle.smv_recheck.proofs.soundness_of_checking.full_items_are_rejected_for_a_reason.Goals as goal

pub returns : goal.returns
returns c = λ p questions parts item log full asked fails. has_fault p questions parts item log full asked fails
