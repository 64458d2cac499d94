use Rattle.clause_core.proofs.Sound.{refutes}
use Rattle.clause_core.proofs.soundness_of_derivations.what_derives_the_empty_clause_has_no_model.Goals as goal

pub returns : goal.returns
returns c = refutes
