use Rattle.bit_table.proofs.OfResults.{value_stays}
use Rattle.bit_table.proofs.operator_results.what_operators_give.Goals as goal

pub returns : goal.returns
returns c = value_stays
