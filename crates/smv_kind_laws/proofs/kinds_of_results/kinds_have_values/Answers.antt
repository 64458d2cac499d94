use Rattle.smv_kind_laws.proofs.Giving.{values_given}
use Rattle.smv_kind_laws.proofs.kinds_of_results.kinds_have_values.Goals as goal

pub returns : goal.returns
returns c = values_given
