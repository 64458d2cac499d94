use Rattle.value_types.proofs.Hulls.{in_interval}
use Rattle.value_types.proofs.codes_and_intervals.what_an_interval_holds.Goals as goal

pub returns : goal.returns
returns c = λ t z h. in_interval t z h
