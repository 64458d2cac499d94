-- No type has more than 128 bits.
use Rattle.std.proofs.Common.{arith}
use Rattle.bit_states.proofs.Walking.{few_bits}
use Rattle.bit_states.proofs.coding.known_width.Goals as goal

pub returns-in-Some-clause-few : goal.returns-in-Some-clause-few
returns-in-Some-clause-few c = omega (arith, few_bits c.in-Some.count (omega arith), c.least_bits.ensures)
