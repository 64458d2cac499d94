-- The count falls.
use Rattle.bit_values.proofs.coding.+least_bits.Given as goal

abbrev pub decreases-least_bits : goal.decreases-least_bits
decreases-least_bits l = l.count
