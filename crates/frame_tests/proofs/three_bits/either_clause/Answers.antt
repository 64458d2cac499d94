use Rattle.std.proofs.Common.{rules}
use Rattle.frame_tests.specs.ThreeBits.{either_low}
use Rattle.frame_tests.proofs.three_bits.either_clause.Goals as goal

pub returns : goal.returns
unfolding either_low
returns c = search rules
