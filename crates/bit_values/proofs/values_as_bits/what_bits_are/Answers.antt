use Rattle.bit_values.proofs.OfBits.{bits_are}
use Rattle.bit_values.proofs.values_as_bits.what_bits_are.Goals as goal

pub returns : goal.returns
returns c = λ t h. bits_are t h
