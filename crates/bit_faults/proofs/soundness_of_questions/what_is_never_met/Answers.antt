-- The laws of all programs.
use Rattle.bit_faults.proofs.Asking.{all_never, before_never}
use Rattle.bit_faults.proofs.soundness_of_questions.what_is_never_met.Goals as goal

pub returns-clause-all : goal.returns-clause-all
returns-clause-all c = λ p qs has are none. all_never p has qs are none

pub returns-clause-before : goal.returns-clause-before
returns-clause-before c = λ p qs n has are none. before_never p has qs are n none
