use Rattle.smv_kind_laws.proofs.Members.{taken}
use Rattle.smv_kind_laws.proofs.kinds_of_results.what_is_taken_is_alike.Goals as goal

pub returns : goal.returns
returns c = taken
