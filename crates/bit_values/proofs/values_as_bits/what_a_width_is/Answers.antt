use Rattle.bit_values.proofs.Widths.{least_width}
use Rattle.bit_values.proofs.values_as_bits.what_a_width_is.Goals as goal

pub returns : goal.returns
returns c = λ m. least_width m
