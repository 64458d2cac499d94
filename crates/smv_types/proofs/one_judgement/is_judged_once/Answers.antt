-- The law of all programs.
use Rattle.smv_types.proofs.Once.{judged_once}
use Rattle.smv_types.proofs.one_judgement.is_judged_once.Goals as goal

pub returns : goal.returns
returns c = judged_once
