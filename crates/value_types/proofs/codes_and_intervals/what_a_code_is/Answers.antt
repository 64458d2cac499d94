use Rattle.value_types.proofs.Coding.{coding}
use Rattle.value_types.proofs.codes_and_intervals.what_a_code_is.Goals as goal

pub returns : goal.returns
returns c = λ t h. coding t h
