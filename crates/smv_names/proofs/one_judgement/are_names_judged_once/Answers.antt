-- The law of all programs.
use Rattle.smv_names.proofs.Once.{names_judged_once}
use Rattle.smv_names.proofs.one_judgement.are_names_judged_once.Goals as goal

pub returns : goal.returns
returns c = names_judged_once
